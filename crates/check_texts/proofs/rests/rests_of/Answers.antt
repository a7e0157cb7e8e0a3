use Rattle.check_texts.proofs.{Instruction, KeptWays, List, Vec, ap, append-nil, arith, instruction_of, reverse, subst, sym, [], ◌++◌, ◌∙◌, ◌∷◌, ◌≡◌}
use Rattle.check_texts.proofs.{nil_from_length, AreRests, IsLayer, commands_in, rests_in, reverse-append, Layer, All-pop, Some, commands_before}
use Rattle.check_texts.proofs.{rests_counted}
use Rattle.check_texts.proofs.rests.rests_of.Goals as goal

-- one more before the others
rests_more : (rests : List (Vec KeptWays)) (own : Vec KeptWays) → rests_in (reverse (rests ++ own ∷ [])) ≡ own.items ∷ rests_in (reverse rests)
rests_more rests own = ap rests_in (reverse-append rests (own ∷ []))

pub rests_at_end-requires : goal.rests_at_end-requires
rests_at_end-requires c = record { rings = rw c.deref.ensures.value c.requires.last }

pub loop-layer-init : goal.loop-layer-init
loop-layer-init c = record {
  layers = c.requires.layers;
  rests = ([], append-nil (commands_in c.args.all.layers.items), rw c.new-rests.ensures.items (c.in_ok-later.ensures, tt));
}

pub loop-layer-preserved : goal.loop-layer-preserved
loop-layer-preserved c =
    let cat = c.args.setting.now.catalogue.now in
    let layers = c.pop.new.self.items in
    let layer = c.in-Some.layer in
    let is = c.in-Some.ensures.items in
    let (done, same, are) = c.loop-layer.invariant.rests in
    let behind = rests_in (reverse c.loop-layer.rests.items) in
    let own = All-pop (IsLayer cat) c.loop-layer.layers.items layers (Some layer) is c.loop-layer.invariant.layers in
    record {
      layers = own.0;
      rests = (
        instruction_of layer.command.now ∷ done,
        commands_before layers layer is done _ same,
        rw (c.in_ok-push.ensures.items, rests_more c.loop-layer.rests.items c.loop-layer.later) (
          rw c.deref-in-Some-2.ensures.value at (c.in_ok-own.ensures (instruction_of layer.command.now) done behind
              (rw c.deref-in-Some.ensures.value own.1) (rw c.deref-in-Some-2.ensures.value are.0)),
          rests_counted cat done (c.loop-layer.later.items ∷ behind) are,
        ),
      );
    }

pub returns : goal.returns
returns c =
    let cat = c.args.setting.now.catalogue.now in
    let (done, same, are) = c.loop-layer.invariant.rests in
    let now = c.pop.new.self.items in
    let none : now ≡ [] = nil_from_length now (omega (arith, c.in_default.ensures.cases.1, c.pop.new.self.ok.0)) in
    let all_none : c.loop-layer.layers.items ≡ [] = c.in_default.ensures.items ∙ (append-nil now ∙ none) in
    let commands_are = sym (ap (λ (ls : List Layer). commands_in ls ++ done) all_none) ∙ same in
    rw (c.reverse.ensures.items, c.in_ok-push-2.ensures.items, rests_more c.loop-layer.rests.items c.loop-layer.later)
    (subst (λ (cs : List Instruction). AreRests cat cs (c.loop-layer.later.items ∷ rests_in (reverse c.loop-layer.rests.items))) commands_are are)
