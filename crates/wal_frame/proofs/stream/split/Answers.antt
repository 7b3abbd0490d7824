use Rattle.wal_frame.proofs.Common.{List, ℕ, Result, subst, arith, Splits}
use Rattle.wal_frame.proofs.StreamLaws.{split_payloads, split_malformed, stream_all, stream_broken}
use Rattle.wal_frame.proofs.stream.split.Goals as goal

pub returns-clause-payloads : goal.returns-clause-payloads
returns-clause-payloads c = split_payloads c.args.stream.now c.payloads_of.result (λ i. omega (arith, c.type_inv.stream i)) c.payloads_of.ensures

pub returns-clause-malformed : goal.returns-clause-malformed
returns-clause-malformed c = split_malformed c.args.stream.now c.payloads_of.result (λ i. omega (arith, c.type_inv.stream i)) c.payloads_of.ensures

pub returns-clause-only : goal.returns-clause-only
returns-clause-only c = λ payloads h. subst (λ (r : Result (List (List ℕ)) ℕ). Splits c.payloads_of.result r) (stream_all payloads c.args.stream.now h) c.payloads_of.ensures

pub returns-clause-refused : goal.returns-clause-refused
returns-clause-refused c = λ place h. subst (λ (r : Result (List (List ℕ)) ℕ). Splits c.payloads_of.result r) (stream_broken place c.args.stream.now (λ i. omega (arith, c.type_inv.stream i)) h) c.payloads_of.ensures
