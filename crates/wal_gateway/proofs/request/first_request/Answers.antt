-- A request, an envelope without one, and the end.
use Rattle.wal_gateway.proofs.Common.{◌≡◌, None, ◌-◌, refl, sym, ◌∙◌, arith, envelope, whole_in}
use Rattle.wal_frame.specs.declared.frame.Envelope.{Envelope}
use Rattle.wal_frame.specs.declared.frame.Envelope.TheVariants.{Part, Whole, Wrong}
use Rattle.wal_gateway.proofs.RequestLaws.{asks, asks_nothing, asks_shorter, none_of, passes_more, passes_taken}
use Rattle.wal_gateway.proofs.request.first_request.Goals as goal

pub returns-in-Some-clause-some : goal.returns-in-Some-clause-some
returns-in-Some-clause-some c = λ ps is.
    let at = c.loop-payload.invariant in
    let begins = c.in-Whole.ensures.begins in
    asks _ _ _ at.passes c.in-Whole.sender _ _ begins.0 begins.1 c.in-Some.request _ (sym c.request_in.ensures ∙ c.in-Some.is) refl refl refl ps is

pub loop-payload-preserved : goal.loop-payload-preserved
loop-payload-preserved c =
    let passes = c.loop-payload.invariant.passes in
    let begins = c.in-Whole.ensures.begins in
    let none = sym c.request_in.ensures ∙ none_of c.request_in.result c.in_default-request_in.not-Some in
    let more = passes_more _ _ _ passes c.in-Whole.sender _ _ begins.0 begins.1 none in
    record {
      left = omega (arith, asks_shorter _ _ _ passes c.in-Whole.sender _ _ begins.0 begins.1);
      passes = passes_taken _ _ _ more;
    }

pub returns : goal.returns
returns c =
    let at = c.loop-payload.invariant in
    record {
      some = tt;
      shorter = tt;
      none = λ e ps is. asks_nothing _ _ _ at.passes (sym c.envelope.ensures.at ∙ by c.envelope.result refl) ps is;
    }
  where
    by : (e : Envelope) → c.envelope.result ≡ e → whole_in e ≡ None
    by (Whole s p r) is = absurd (c.in_default.not-Whole s p r is)
    by Part is = refl
    by Wrong is = refl
