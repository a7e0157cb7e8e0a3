use Rattle.check_judge.proofs.{◌≡◌, ◌∙◌, sym, Decides-eqb, all_closed, all_of_ring, few_of_ring, ring_with_slots, true≢false, teardown_text}
use Rattle.check_judge.proofs.{end_printed, slice_eq-Decides}
use Rattle.check_judge.proofs.play.play_end.Goals as goal

pub close_in_order-requires : goal.close_in_order-requires
close_in_order-requires c =
    let files = c.deref.ensures.value ∙ c.in_ok-files.ensures in record {
      entries = all_of_ring c.args.catalogue.now c.args.ring.now c.deref.result.now files c.requires.is_ring;
      few = few_of_ring c.args.ring.now c.deref.result.now files c.requires.few_slots;
    }

pub teardown_text-requires : goal.teardown_text-requires
teardown_text-requires c =
    all_closed c.args.catalogue.now c.deref.result.now c.in_ok-closes.closes
    (all_of_ring c.args.catalogue.now c.args.ring.now c.deref.result.now (c.deref.ensures.value ∙ c.in_ok-files.ensures) c.requires.is_ring)
    c.in_ok-closes.ensures

pub returns-clause-only : goal.returns-clause-only
returns-clause-only c = λ ends.
    let written = slice_eq-Decides Decides-eqb c.as_bytes.result.now c.args.text.now c.eq.result c.eq.ensures in
    let same : c.args.text.now ≡ teardown_text c.args.catalogue.now c.in_ok-closes.closes.files =
    end_printed (ring_with_slots c.args.catalogue.now c.args.ring.now) c.deref.result.now c.in_ok-closes.closes c.args.text.now c.requires.is_ring
    (c.deref.ensures.value ∙ c.in_ok-files.ensures) c.in_ok-closes.ensures ends in
    true≢false (sym (written.1 (c.as_bytes.ensures.value ∙ c.in_ok-expected.ensures ∙ sym same)) ∙ c.if-eq.false)
