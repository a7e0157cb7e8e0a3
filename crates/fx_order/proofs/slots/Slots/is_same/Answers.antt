use Rattle.fx_order.proofs.{◌≡◌, rules, length, slice_index_or, None, file_Decides, option_Decides}
use Rattle.std.proofs.lemmas.Slice.Eq.{slice_eq-Decides}
use Rattle.fx_order.proofs.slots.Slots.is_same.Goals as goal

pub returns-then-eq-clause-same : goal.returns-then-eq-clause-same
returns-then-eq-clause-same c = λ is.
    let range : c.args.self.now.range ≡ c.args.other.now.range = search rules in
    let files = (slice_eq-Decides (option_Decides file_Decides) _ _ _ c.eq-then-eq.ensures).0 is in
    λ i. record { size = length (files i); range = range i; at = λ slot. slice_index_or (files i) slot None }

pub returns-then-eq-clause-all : goal.returns-then-eq-clause-all
returns-then-eq-clause-all c = λ _ files. (slice_eq-Decides (option_Decides file_Decides) _ _ _ c.eq-then-eq.ensures).1 files
