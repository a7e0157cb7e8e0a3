use Rattle.fx_ring.proofs.Words.{◌+◌, PassView, all_asked, all_completed, vec_capacity}
use Rattle.fx_ring.proofs.LonePlays.{IsPlaying}
use Rattle.fx_ring.proofs.open_ring.play_alone.Given as goal

abbrev pub invariant-loop-i : goal.invariant-loop-i
invariant-loop-i g l =
    let s = l.submission in
    let V : g.row.T-Pass.Denot → PassView = λ p. g.T.FileTable.view p in
    IsPlaying V (λ p. g.T.FileTable.fits l.table p) (g.T.FileTable.opening l.table) s.catalogue.now (s.earlier + 1)
    (all_asked s.requests.now) (V l.fn.pass) l.i l.pass (all_completed l.outcome.completions.items) l.outcome.closes
    (vec_capacity l.outcome.completions)
