use Rattle.fx_chain.proofs.Words.{◌≤◌, ◌+◌, take, drop, length, IsIdle, AppliesList, PlayerActs, IsSamePlayer, list_installs}
use Rattle.fx_chain.proofs.steps.apply_list.Given as goal

abbrev pub invariant-loop-i : goal.invariant-loop-i
invariant-loop-i g l = record {
  kept : IsSamePlayer (g.T.FileTable.fits l.context.table.now) l.initial.player l.player;
  idle : IsIdle (g.T.FileTable.view l.player.pass.now);
  numbers : list_installs (drop l.i l.list) ≤ (g.T.FileTable.view l.player.pass.now).numbers_left;
  room : length l.list ≤ l.player.closes.now.room + l.i;
  done : PlayerActs (g.T.FileTable.opening l.context.table.now) g.T.FileTable.view l.initial.player 0 (list_installs (take l.i l.list)) l.i
      (AppliesList l.context.place 0 l.off (take l.i l.list)) l.player;
}
