-- What was read of the text, and what is left.
use Rattle.walrus_c.proofs.Common.{length, ◌-◌, ◌≤◌, map, string_bytes, drop, ReadSoFar}
use Rattle.walrus_c.proofs.words.words_of.Given as goal

abbrev pub invariant-bytes : goal.invariant-bytes
invariant-bytes l = record {
  within : l.done ≤ length l.text;
  so_far : ReadSoFar (map string_bytes l.words.items) l.word.items (drop l.done l.text) l.text;
}

abbrev pub decreases-bytes : goal.decreases-bytes
decreases-bytes l = length l.text - l.done
