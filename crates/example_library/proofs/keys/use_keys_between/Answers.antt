use Rattle.std.proofs.Common.{subst}
use Rattle.std.proofs.lemmas.List.Elements.{All-pop}
use Rattle.std.specs.Prelude.{Option, IfSome}
use Rattle.fx_lasting.specs.Tables.{IsPassOfTable, view_of}
use Rattle.fx_lasting.specs.declared.pass.LastingPass.{LastingPass}
use Rattle.fx_table.specs.Pass.{IsIdle}
use Rattle.example_library.proofs.keys.use_keys_between.Goals as goal

pub use_keys-requires-clause-finder : goal.use_keys-requires-clause-finder
use_keys-requires-clause-finder g c =
    let Ready : LastingPass → Type 0 = λ p. IsPassOfTable c.args.table.now p × IsIdle (view_of p) in
    let first = All-pop Ready c.args.passes.now.items c.pop.new.self.items c.pop.result c.pop.ensures.items c.requires.ready in
    subst (λ (r : Option LastingPass). IfSome r Ready) c.unwrap-finder.ensures first.1

pub use_keys-requires-clause-pass : goal.use_keys-requires-clause-pass
use_keys-requires-clause-pass g c =
    let Ready : LastingPass → Type 0 = λ p. IsPassOfTable c.args.table.now p × IsIdle (view_of p) in
    let first = All-pop Ready c.args.passes.now.items c.pop.new.self.items c.pop.result c.pop.ensures.items c.requires.ready in
    let second = All-pop Ready c.pop.new.self.items c.pop-2.new.self.items c.pop-2.result c.pop-2.ensures.items first.0 in
    subst (λ (r : Option LastingPass). IfSome r Ready) c.unwrap-pass.ensures second.1
