use Rattle.fx_script.proofs.{ring_played, HasPlayed}
use Rattle.fx_script.proofs.player.play_commands.Given as goal

-- the first `i` commands were played
abbrev pub invariant-loop-i : goal.invariant-loop-i
invariant-loop-i g l =
    HasPlayed l.fn.ring (ring_played l.now) l.commands l.i (g.W.Write.contents l.fn.writer) (g.W.Write.contents l.writer)
