use Rattle.fx_script.proofs.{◌∙◌, ap, sym, string_bytes, ring_of, instruction_of, ring_played, IfOk-weaker, prints_same, OpenRingContents, PlayedRing}
use Rattle.fx_script.proofs.played_ring.text_anew.Goals as goal

pub returns-in-Some : goal.returns-in-Some
returns-in-Some g c = IfOk-weaker c.in-Some.text _ _ (λ t. prints_same (ring_played c.opened-next.result) (ring_played c.args.ring)
    (ring_played c.open_text.new.ring) (string_bytes t) (sym (c.opened-next.ensures ∙ c.closed.ensures)) (instruction_of c.args.command.now))
    c.in-Some.ensures

pub returns-in-None : goal.returns-in-None
returns-in-None g c = IfOk-weaker c.closed_text.result.1 _ _ (λ t. prints_same c.closed-in-None.result (ring_played c.args.ring)
    (ring_played c.closed_text.result.0) (string_bytes t) (sym (c.closed-in-None.ensures
    ∙ ap (λ (ring : PlayedRing OpenRingContents). ring_of (ring_played ring)) c.in-None.ensures ∙ c.opened-next.ensures ∙ c.closed.ensures))
    (instruction_of c.args.command.now)) c.closed_text.ensures
