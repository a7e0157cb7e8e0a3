use Rattle.fx_chain.proofs.Words.{◌≡◌, ◌≤◌, ◌+◌, ◌++◌, List, length, take, vec_len, vec_capacity, IsIdle, Completed, all_completed, IsSamePlayer}
use Rattle.fx_chain.proofs.Words.{player_view, first_member, all_asked, PlaysMembers, player, all_installs, all_weights}
use Rattle.fx_chain.proofs.ChainGoesOn.{any_severs, asked_from}
use Rattle.fx_chain.proofs.player.run_chain.Given as goal

abbrev pub invariant-loop-i : goal.invariant-loop-i
invariant-loop-i g l = record {
  kept : IsSamePlayer (g.T.FileTable.fits l.table) l.initial.player l.player;
  idle : IsIdle (g.T.FileTable.view l.player.pass.now);
  looks : length l.requests ≤ (g.T.FileTable.view l.player.pass.now).looks_left + l.i;
  numbers : all_installs (asked_from l.requests l.i) ≤ (g.T.FileTable.view l.player.pass.now).numbers_left;
  room : all_weights (asked_from l.requests l.i) ≤ l.player.closes.now.room;
  count : vec_len l.out ≡ vec_len l.fn.out + l.i;
  capacity : vec_capacity l.fn.out ≤ vec_capacity l.out;
  done : (cs : List Completed) × (all_completed l.out.items ≡ all_completed l.fn.out.items ++ cs)
      × (l.severed ≡ any_severs (all_asked (take l.i l.requests)) cs)
      × PlaysMembers (g.T.FileTable.opening l.table) l.catalogue (first_member l.submission l.chain) (all_asked (take l.i l.requests))
      (player (g.T.FileTable.view l.fn.pass) l.fn.closes) cs (player_view g.T.FileTable.view l.player);
}
