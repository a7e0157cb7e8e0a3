use Rattle.check_texts.proofs.{shown, instruction_of, ring_with_slots, IsLineOf, Stage, after_call, kept_text, stage_of, stages_of, string_bytes}
use Rattle.check_texts.proofs.{◌++◌, ◌≡◌, call_may_lead, call_only, grows_on, stays}
use Rattle.check_texts.proofs.next.push_call.Goals as goal

pub returns : goal.returns
returns c =
    let cat = c.args.setting.now.catalogue.now in
    let keeps = c.args.setting.now.keeps in
    let from = stage_of cat c.args.from.now in
    let new : Stage = record { ring = ring_with_slots cat c.in_ok-called.called.ring; printed = string_bytes c.in_ok-printed.printed } in
    let command = instruction_of c.args.command.now in
    let line = string_bytes c.in_ok-called.called.line in
    let left : new.ring ≡ after_call from.ring command = c.in_ok-called.ensures.value in
    let told : IsLineOf from.ring command line = c.in_ok-called.ensures.line in
    let kept : new.printed ≡ kept_text keeps (from.printed ++ line) =
    rw (c.as_str.ensures.value, c.as_str-2.ensures.value) at c.in_ok-printed.ensures in
    let (next, shows) = shown cat c.in_ok-called.called.ring in
    record {
      grows = grows_on
          (λ s is. rw is (call_may_lead keeps from new command line c.requires.call left told kept next shows c.args.from.now.few_slots)) stays
          (c.in_ok-push_new.ensures.grows cat);
      all = λ _. call_only keeps from new command line c.requires.call left told kept (stages_of cat c.push_new.new.rings.items) c.requires.ring
          (c.in_ok-push_new.ensures.there cat);
    }
