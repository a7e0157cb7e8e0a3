use Rattle.fx_script.proofs.{rules, ap, sym, string_bytes, ring_of, instruction_of, ring_played, Prints, PrintsEnd, IfErr-weaker, IfOk-weaker}
use Rattle.fx_script.proofs.{on_ok_weaker, one_more, ends, fails, text_written, known_ok, prints_same, OpenRingContents, PlayedRing}
use Rattle.fx_script.proofs.player.play_commands.Goals as goal

pub loop-i-preserved : goal.loop-i-preserved
loop-i-preserved g c = one_more c.loop-i.invariant (search rules) c.index-commands-i.is (text_written (λ t. string_bytes t)
    (Prints (ring_played c.loop-i.now) (instruction_of c.index-commands-i.result) (ring_played c.open_text.new.ring)) _ _ c.in-Some.text
    c.in-Some.ensures c.in_default-write_text-2.ensures.written)

pub loop-i-preserved-in_default : goal.loop-i-preserved-in_default
loop-i-preserved-in_default g c =
    let same = ap (λ (ring : PlayedRing OpenRingContents). ring_of (ring_played ring)) (sym c.in_default.ensures) in
    let ring = ring_played c.open_text.new.ring in
    let next = ring_played c.text_anew-next.result.0 in
    one_more c.loop-i.invariant (search rules) c.index-commands-i.is (text_written (λ t. string_bytes t)
    (Prints (ring_played c.loop-i.now) (instruction_of c.index-commands-i.result) next) _ _ c.text_anew-next.result.1
    (IfOk-weaker c.text_anew-next.result.1 _ _ (λ t. prints_same ring (ring_played c.loop-i.now) next (string_bytes t) same
    (instruction_of c.index-commands-i.result)) c.text_anew-next.ensures) c.in_default-write_text.ensures.written)

pub returns-in-Err-write_text-clause-fault : goal.returns-in-Err-write_text-clause-fault
returns-in-Err-write_text-clause-fault g c = fails c.loop-i.invariant c.in-Err-write_text.fault _ c.in-Err-write_text.ensures.fault

pub returns-in-Err-clause-fault : goal.returns-in-Err-clause-fault
returns-in-Err-clause-fault g c = fails c.loop-i.invariant c.in-Err.fault _ c.in-Err.ensures.fault

pub returns-clause-ok : goal.returns-clause-ok
returns-clause-ok g c = on_ok_weaker c.write_text-2.result
    (λ written. ends c.loop-i.invariant (search rules) c.closed-ring.ensures _ (text_written (λ t. string_bytes t)
    (PrintsEnd (ring_of c.closed-ring.result)) _ _ c.end_text-text.result c.end_text-text.ensures.end written)) c.write_text-2.ensures.written

pub returns-clause-fault : goal.returns-clause-fault
returns-clause-fault g c = IfErr-weaker c.write_text-2.result _ _ (λ fault. fails c.loop-i.invariant fault _) c.write_text-2.ensures.fault

pub returns-clause-closed : goal.returns-clause-closed
returns-clause-closed g c =
    on_ok_weaker c.write_text-2.result (λ written. known_ok _ c.end_text-text.result written c.end_text-text.ensures.closed) c.write_text-2.ensures.written
