use Rattle.check_texts.proofs.{AreOf, all_closed, all_of_ring, few_of_ring, end_printed, refl, stage_of, HasClosed, files_of_ring, ◌∙◌, ◌≡◌}
use Rattle.check_texts.proofs.{rest_of_end}
use Rattle.check_texts.proofs.rests.rest_at_end.Goals.{After-deref}
use Rattle.check_texts.proofs.rests.rest_at_end.Goals as goal

-- the files that are there are of the catalogue
entries : (c : After-deref) → AreOf c.args.setting.now.catalogue.now c.deref.result.now
entries c = all_of_ring c.args.setting.now.catalogue.now c.args.last.now.ring c.deref.result.now (c.deref.ensures.value ∙ c.in_ok-files.ensures)
    c.requires.bare.0

pub close_in_order-requires-clause-entries : goal.close_in_order-requires-clause-entries
close_in_order-requires-clause-entries c = entries (goal.at.close_in_order-requires-clause-entries c).After-deref

pub close_in_order-requires-clause-few : goal.close_in_order-requires-clause-few
close_in_order-requires-clause-few c =
    few_of_ring c.args.last.now.ring c.deref.result.now (c.deref.ensures.value ∙ c.in_ok-files.ensures) c.args.last.now.few_slots

pub teardown_text-requires : goal.teardown_text-requires
teardown_text-requires c =
    all_closed c.args.setting.now.catalogue.now c.deref.result.now c.in_ok-closes.closes (entries (goal.at.teardown_text-requires c).After-deref)
    c.in_ok-closes.ensures

pub returns : goal.returns
returns c =
    let cat = c.args.setting.now.catalogue.now in
    let last = stage_of cat c.args.last.now in
    let files_are : c.deref.result.now ≡ files_of_ring last.ring = c.deref.ensures.value ∙ c.in_ok-files.ensures in
    let closes : HasClosed (files_of_ring last.ring) c.in_ok-closes.closes = rw files_are at c.in_ok-closes.ensures in
    rest_of_end cat _ _ last.ring (c.in_ok-ring.ensures.same cat) (rw c.new-exits.ensures.items at c.in_ok-push.ensures.items) refl refl
    (c.in_ok-closes.closes, closes, c.in_ok-line.ensures)
    (λ other ends.
    let same = end_printed last.ring c.deref.result.now c.in_ok-closes.closes other c.requires.bare.0 files_are c.in_ok-closes.ensures ends in
    rw (same, c.in_ok-line.ensures))
