use Rattle.check_texts.proofs.{Instruction, List, All, length, reverse, ◌++◌, ◌∷◌, ◌≡◌, AreRests, IsLayer, commands_in, rests_in}
use Rattle.check_texts.proofs.rests.rests_of.Given as goal

abbrev pub invariant-loop-layer : goal.invariant-loop-layer
invariant-loop-layer l = record {
  layers : All (IsLayer l.setting.catalogue.now) l.layers.items;
  rests : (done : List Instruction) × (commands_in l.layers.items ++ done ≡ commands_in l.fn.all.layers.items)
      × AreRests l.setting.catalogue.now done (l.later.items ∷ rests_in (reverse l.rests.items));
}

abbrev pub decreases-loop-layer : goal.decreases-loop-layer
decreases-loop-layer l = length l.layers.items
