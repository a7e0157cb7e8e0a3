use Rattle.std.proofs.Common.{subst}
use Rattle.std.proofs.lemmas.List.Elements.{All-pop}
use Rattle.std.specs.Prelude.{Option, IfSome}
use Rattle.fx_lasting.specs.Tables.{IsPassOfTable, view_of}
use Rattle.fx_lasting.specs.declared.pass.LastingPass.{LastingPass}
use Rattle.fx_table.specs.Pass.{IsIdle}
use Rattle.test_ring.proofs.keys.remove_between.Goals as goal

pub change_some-requires-clause-reader : goal.change_some-requires-clause-reader
change_some-requires-clause-reader g c κs lives =
    let Ready : LastingPass → Type 0 = λ p. IsPassOfTable c.args.table.now p × IsIdle (view_of p) in
    let first = All-pop Ready c.args.passes.now.items c.pop.new.self.items c.pop.result c.pop.ensures.items c.requires.ready in
    subst (λ (r : Option LastingPass). IfSome r Ready) c.unwrap-reader.ensures first.1

pub change_some-requires-clause-pass : goal.change_some-requires-clause-pass
change_some-requires-clause-pass g c κs lives =
    let Ready : LastingPass → Type 0 = λ p. IsPassOfTable c.args.table.now p × IsIdle (view_of p) in
    let first = All-pop Ready c.args.passes.now.items c.pop.new.self.items c.pop.result c.pop.ensures.items c.requires.ready in
    let second = All-pop Ready c.pop.new.self.items c.pop-2.new.self.items c.pop-2.result c.pop-2.ensures.items first.0 in
    subst (λ (r : Option LastingPass). IfSome r Ready) c.unwrap-pass.ensures second.1
