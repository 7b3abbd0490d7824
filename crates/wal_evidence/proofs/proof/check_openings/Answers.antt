use Rattle.wal_evidence.proofs.Common.{rules, ◌≡◌, ℕ, List, All, length, Distinct, sliver_symbols, BlobMetadata, EncodingProof, metadata_shown, proof_shown, HoldsOpening, AreEnough, crosses_of, symbols_of}
use Rattle.wal_evidence.proofs.FalseOpenings.{target_within}
use Rattle.wal_evidence.proofs.OneLine.{crosses_within, line_shown, symbol_sizes, symbols_long}
use Rattle.wal_evidence.proofs.proof.check_openings.Goals as goal

-- the openings that were loaded are enough
enough : (digest : List ℕ → List ℕ) (m : BlobMetadata) (p : EncodingProof) (crosses : List ℕ)
    → length p.openings ≡ sliver_symbols p.axis m.f → crosses ≡ crosses_of p.openings → Distinct crosses
    → All (HoldsOpening digest m p.axis p.index) p.openings → AreEnough digest m p.axis p.index p.openings
enough digest m p crosses count is distinct held =
    record { count = count; distinct = rw is at distinct; held = held }

pub solve-word-requires-clause-below : goal.solve-word-requires-clause-below
solve-word-requires-clause-below g c =
    let p = proof_shown c.args.p.now in
    let are = enough g.H.Hash32.digest (metadata_shown c.args.m) p _ c.requires.count c.requires.crosses
    c.requires.distinct (search rules) in
    rw (c.shape.ensures.value, c.requires.crosses) (crosses_within g.H.Hash32.digest _ p.axis p.index p.openings are)

pub solve-word-requires-clause-loaded : goal.solve-word-requires-clause-loaded
solve-word-requires-clause-loaded g c =
    let p = proof_shown c.args.p.now in
    let are = enough g.H.Hash32.digest (metadata_shown c.args.m) p _ c.requires.count c.requires.crosses
    c.requires.distinct (search rules) in
    let loaded : c.load_symbols.new.work.loaded ≡ symbols_of p.openings = search rules in
    rw (loaded, c.axis.ensures, c.shape.ensures.value, ← c.requires.count)
    (symbols_long _ p.openings (symbol_sizes g.H.Hash32.digest _ p.axis p.index p.openings are))

pub root_holds-requires-clause-index : goal.root_holds-requires-clause-index
root_holds-requires-clause-index g c =
    let p = proof_shown c.args.p.now in
    let are = enough g.H.Hash32.digest (metadata_shown c.args.m) p _ c.requires.count c.requires.crosses
    c.requires.distinct (search rules) in
    rw c.index.ensures.value (target_within g.H.Hash32.digest _ p.axis p.index p.openings are)

pub returns-then-root_holds-clause-checks : goal.returns-then-root_holds-clause-checks
returns-then-root_holds-clause-checks g c =
    let m = metadata_shown c.args.m in
    let p = proof_shown c.args.p.now in
    let are = enough g.H.Hash32.digest m p _ c.requires.count c.requires.crosses c.requires.distinct (search rules) in
    record {
      word = c.solve-word.result.now;
      line = line_shown g.H.Hash32.digest m p.axis p.index p.openings are c.shape.result c.axis.result
          c.args.crosses.now c.load_symbols.new.work.loaded c.solve-word.result.now c.shape.ensures.value c.axis.ensures
          c.requires.crosses (search rules) c.solve-word.ensures.word;
      root = search rules;
    }

pub returns-else-root_holds-clause-checks : goal.returns-else-root_holds-clause-checks
returns-else-root_holds-clause-checks g c =
    let m = metadata_shown c.args.m in
    let p = proof_shown c.args.p.now in
    let are = enough g.H.Hash32.digest m p _ c.requires.count c.requires.crosses c.requires.distinct (search rules) in
    record {
      word = c.solve-word.result.now;
      line = line_shown g.H.Hash32.digest m p.axis p.index p.openings are c.shape.result c.axis.result
          c.args.crosses.now c.load_symbols.new.work.loaded c.solve-word.result.now c.shape.ensures.value c.axis.ensures
          c.requires.crosses (search rules) c.solve-word.ensures.word;
      root = search rules;
    }
