use Rattle.fx_lasting.proofs.{◌-◌, get_elem?, some, set, pass_in, name_in, nodes_of, as_swapped, ◌≡◌, ℕ, ◌+◌, ◌<◌, refl, ap, ◌∙◌, subst, arith, Put}
use Rattle.fx_lasting.proofs.{numbered, ◌▷◌, [], slot_of, opening_of, view_of, pass_of, Runs, rest, retiring_work, doing_in, Start, Glance, Outside}
use Rattle.fx_lasting.proofs.{file_word_of, IsAtWork, Adds, one_number, account, range_at_start, slot_inside, slot_low, begins_at, few_nodes}
use Rattle.fx_lasting.proofs.{slot_back, still_at_work, runs_one, turns_then, swapped_then, at_swapped, adds_swapped, swapped_pass, swapped_looking}
use Rattle.fx_lasting.proofs.{its_place, may_install, account_so, knows_removed, placed_so, first_by}
use Rattle.fx_lasting.proofs.range_lemmas.Trying.{stocked_at}
use Rattle.fx_lasting.proofs.slot_lemmas.SlotLaws.{installs_keep}
use Rattle.fx_lasting.proofs.table.LastingTable.put.Goals.{After-place-entry}
use Rattle.fx_lasting.proofs.table.LastingTable.put.Goals as goal

pub place-entry-requires-clause-may : goal.place-entry-requires-clause-may
place-entry-requires-clause-may c = rw c.as_slice-stock.ensures.value (its_place c.requires.fits c.requires.idle)

pub place-entry-requires-clause-installs : goal.place-entry-requires-clause-installs
place-entry-requires-clause-installs c = omega (arith, may_install c.requires.fits.seated c.requires.numbers, c.args.self.now.key.1)

pub place-entry-requires-clause-stock : goal.place-entry-requires-clause-stock
place-entry-requires-clause-stock c = c.as_slice-stock.ensures.value ∙ c.requires.fits.seated.stock

pub place-entry-requires-clause-start : goal.place-entry-requires-clause-start
place-entry-requires-clause-start c = let t = c.args.self.now in
    begins_at t c.requires.fits (omega (arith, may_install c.requires.fits.seated c.requires.numbers, t.key.1))

pub file_word-requires : goal.file_word-requires
file_word-requires c = omega (arith, c.place-entry.ensures.inside, few_nodes c.args.self.now)

-- the entry of the node
at_entry : (c : After-place-entry) → get_elem? (pass_in c.place-entry.new.seat.me).stock c.place-entry.result.0 ≡ some c.place-entry.result.1
at_entry c = stocked_at c.as_slice-stock.result.now c.args.pass.now.seat.me c.place-entry.new.seat.me c.place-entry.result.0 c.place-entry.result.1
    (c.as_slice-stock.ensures.value ∙ c.requires.fits.seated.stock) c.place-entry.ensures.placed.stock c.place-entry.ensures.stocked

-- the pass is about to swap
its_seat : (c : After-place-entry) → IsAtWork c.args.self.now.table.shared.key c.args.pass.now.number c.place-entry.new.seat.me
its_seat c = still_at_work c.requires.fits.seated.at c.place-entry.ensures.placed

pub swap-found-requires : goal.swap-found-requires
swap-found-requires c =
    let t = c.args.self.now in
    let a = (goal.at.swap-found-requires c).After-place-entry in
    let born = c.place-entry.ensures in
    let n = c.place-entry.result.1 in
    let inside : c.args.slot < t.size = omega (arith, c.requires.slot, t.same_size) in (
      born.table ∙ c.requires.fits.seated.table,
      slot_inside t inside c.slot_place.ensures,
      installs_keep _ _ _ _ c.args.slot n c.place-entry.result.2 _ c.args.file c.place-entry.new.seat.me _ (its_seat a).pass born.placed.work
          born.place (omega (arith, c.entry-file_entry.type_inv, c.entry-file_entry.ensures)) (slot_low t inside)
          (a.place-entry.ensures.placed.change ∙ a.requires.fits.seated.change) c.slot_place.ensures
          (ap (λ (z : ℕ). z + c.place-entry.result.2) (c.file_word.ensures ∙ ap (file_word_of n) c.entry-file_entry.ensures)),
    )

pub node_named-requires : goal.node_named-requires
node_named-requires c = c.swap-found.ensures.2.named.0

pub raise-requires-clause-at : goal.raise-requires-clause-at
raise-requires-clause-at c =
    let a = (goal.at.raise-requires-clause-at c).After-place-entry in
    let born = c.place-entry.ensures in
    let went = c.swap-found.ensures.2 in
    let at = its_seat a in
    let stepped = went.stepped c.place-entry.result.1 c.place-entry.result.2 c.place-entry.result.0 c.args.file born.placed.work born.place (at_entry a) in (
      c.args.pass.now.number,
      still_at_work (at_swapped at c.place-entry.result.0 (name_in c.swap-found.result - 1)
          (subst (λ (z : Start). name_in c.swap-found.result - 1 < nodes_of z) at.pass.0 went.named.1)) (runs_one stepped.2),
    )

pub raise-requires-clause-change : goal.raise-requires-clause-change
raise-requires-clause-change c =
    let a = (goal.at.raise-requires-clause-change c).After-place-entry in
    let k : Start = c.args.self.now.table.shared.key in
    let went = c.swap-found.ensures.2 in
    let born = c.place-entry.ensures in
    let stepped = (went.stepped c.place-entry.result.1 c.place-entry.result.2 c.place-entry.result.0 c.args.file born.placed.work born.place (at_entry a)).2 in
    let here : slot_of c.slot_place.result ≡ c.args.slot = ap slot_of c.slot_place.ensures ∙ slot_back c.args.slot in
    stepped.change ∙ ((λ i. account (range_at_start ((its_seat a).pass.0 i)) (here i) went.replaced) ∙ account_so (range_at_start k) c.args.slot c.swap-found.result
    went.replaced c.removed_in-replaced.result c.is_in_range-inside.result c.is_none.result
    (c.removed_in-replaced.ensures went.replaced went.names) c.is_none.ensures c.is_in_range-inside.ensures)

pub returns : goal.returns
returns c =
    let a = (goal.at.returns c).After-place-entry in
    let t = c.args.self.now in
    let k : Start = t.table.shared.key in
    let fits = c.requires.fits in
    let e = c.place-entry.result.0 in
    let file = c.args.file in
    let born = c.place-entry.ensures in
    let went = c.swap-found.ensures.2 in
    let found = c.swap-found.result in
    let named = name_in found - 1 in
    let inside : named < nodes_of k = subst (λ (z : Start). named < nodes_of z) (its_seat a).pass.0 went.named.1 in
    let replaced = went.replaced in
    let is = c.removed_in-replaced.ensures replaced went.names in
    let stepped = went.stepped c.place-entry.result.1 c.place-entry.result.2 e file born.placed.work born.place (at_entry a) in
    let first = born.placed in
    let start : c.place-entry.new.seat.me.0.start ≡ k = first.start ∙ fits.seated.at.pass.0 in
    let run = swapped_looking fits e named found replaced (swapped_then e named first (subst (λ (g : Glance). Runs (as_swapped e named c.place-entry.new.seat.me)
    ([] ▷ Put (slot_of c.slot_place.result) (numbered stepped.0 file) replaced) (retiring_work c.place-entry.new.seat.me.0.start found replaced)
    g Outside 2 c.raise.new.seat.me) first.glance (turns_then (runs_one stepped.2) c.raise.ensures.runs))) start in
    let v = view_of c.args.pass.now in
    let w = pass_of c.raise.new.seat.me.0 in
    let here : slot_of c.slot_place.result ≡ c.args.slot = ap slot_of c.slot_place.ensures ∙ slot_back c.args.slot in
    let adds = subst (λ (z : ℕ). Adds (opening_of k) v ([] ▷ Put z (numbered stepped.0 file) replaced) (doing_in (retiring_work k found replaced)) one_number
    w) here (adds_swapped fits.seated e named inside run one_number) in
    record {
      fits = swapped_pass fits.seated e named inside _ run (refl, refl) (c.raise.ensures.table ∙ (c.swap-found.ensures.0 ∙ born.table))
          (c.raise.ensures.places ∙ (went.carried ∙ ap rest born.place))
          (ap (λ (n : ℕ). set c.args.pass.now.stock.items e n) c.node_named.ensures, λ _. omega (arith, c.place-entry.ensures.entry, t.key.0))
          (knows_removed k found replaced c.removed_in-replaced.result _ _ _ _ e (set c.args.pass.now.stock.items e c.node_named.result) refl is
          c.is_none-pass.ensures
          (c.first_visit-pass.ensures ∙ first_by t found));
      placed = placed_so k v c.args.slot found w replaced c.removed_in-replaced.result is stepped.0 file adds;
      steps = let few = run.steps in omega arith;
    }
