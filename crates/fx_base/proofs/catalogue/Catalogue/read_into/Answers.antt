use Rattle.std.proofs.Common.{rules, ◌≡◌, ◌<◌, length, take, drop, sym, refl, ap, length-drop, slice_index_or, arith}
use Rattle.std.proofs.lemmas.List.{length-take, length-map}
use Rattle.fx_base.specs.CatalogueView.{file_entries_of}
use Rattle.fx_base.proofs.Entries.{read_at}
use Rattle.fx_base.proofs.catalogue.Catalogue.read_into.Goals as goal

pub returns-clause-small : goal.returns-clause-small
returns-clause-small c =
    let entries = c.self.inside.entries.items in
    let e = c.in-Some.e.now in
    let inside : c.args.entry < length (file_entries_of entries) = simp length-map (rw (sym c.deref.ensures.value) (search rules)) in
    let at : e ≡ slice_index_or entries c.args.entry e = rw c.deref.ensures.value at c.in-Some.ensures.lookup.1 in
    let small = (read_at entries refl c.self.invariant.0 inside at).small in
    let part : length c.part-part.result.now ≡ length (take c.args.len (drop c.args.off e.bytes.items)) =
    ap length (rw c.as_slice.ensures.value at c.part-part.ensures) in
    let taken = length-take c.args.len (drop c.args.off e.bytes.items) in
    let rest = length-drop c.args.off e.bytes.items in
    omega arith
