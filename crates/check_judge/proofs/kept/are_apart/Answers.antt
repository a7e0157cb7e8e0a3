use Rattle.check_judge.proofs.{◌≡◌, ℕ, ◌<◌, List, Option, None, Some, length, slice_index_or, Closed, inl, inr, cases_lt, get_or_past, arith, refl}
use Rattle.check_judge.proofs.kept.are_apart.Goals as goal

under : (at : List (Option Closed)) (k : ℕ) {f : Closed} → slice_index_or at k None ≡ Some f → k < length at
under at k {f} is = elim (cases_lt k (length at)) [
  | inl low ↦ low
  | inr past ↦ let none = get_or_past at k None past in cc (none, is)
]

pub returns : goal.returns
returns c =
    let past = c.loop-slot-test.false in (
      (λ _ slot other file same is also marks.
          let low = under c.args.at.now slot is in
          let under_too = under c.args.at.now other also in
          c.loop-slot.invariant slot other file same (omega arith) (omega arith) is also marks),
      (λ _. refl),
    )
