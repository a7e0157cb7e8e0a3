use Rattle.std.proofs.Common.{subst}
use Rattle.std.proofs.lemmas.List.Elements.{All-pop}
use Rattle.std.specs.Prelude.{Option, IfSome}
use Rattle.fx_lasting.specs.Tables.{IsPassOfTable, view_of}
use Rattle.fx_lasting.specs.declared.pass.LastingPass.{LastingPass}
use Rattle.fx_table.specs.Pass.{IsIdle}
use Rattle.example_library.proofs.hand_over.hand_over_between.Goals as goal

pub try_hand_over-found-requires-clause-second : goal.try_hand_over-found-requires-clause-second
try_hand_over-found-requires-clause-second g c κs within =
    let Ready : LastingPass → Type 0 = λ p. IsPassOfTable c.args.table.now p × IsIdle (view_of p) in
    let last = All-pop Ready c.args.passes.now.items c.pop.new.self.items c.pop.result c.pop.ensures.items c.requires.ready in
    subst (λ (r : Option LastingPass). IfSome r Ready) c.unwrap-second.ensures last.1

pub try_hand_over-found-requires-clause-first : goal.try_hand_over-found-requires-clause-first
try_hand_over-found-requires-clause-first g c κs within =
    let Ready : LastingPass → Type 0 = λ p. IsPassOfTable c.args.table.now p × IsIdle (view_of p) in
    let last = All-pop Ready c.args.passes.now.items c.pop.new.self.items c.pop.result c.pop.ensures.items c.requires.ready in
    let other = All-pop Ready c.pop.new.self.items c.pop-2.new.self.items c.pop-2.result c.pop-2.ensures.items last.0 in
    subst (λ (r : Option LastingPass). IfSome r Ready) c.unwrap-first.ensures other.1
