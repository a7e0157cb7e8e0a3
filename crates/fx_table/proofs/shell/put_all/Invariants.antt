use Rattle.fx_table.proofs.Words.{◌≡◌, ◌<◌, ℕ, length, state_of, IsPrepared, file_in_place}
use Rattle.fx_table.proofs.Shells.{IsPartlyBack}
use Rattle.fx_table.proofs.shell.put_all.Given as goal

-- the files of the last places are back
abbrev pub invariant-loop-file : goal.invariant-loop-file
invariant-loop-file l = record {
  part : IsPartlyBack (state_of l.fn.plain) (file_in_place l.fn.homes.items) 0 (length l.homes.items) (state_of l.plain);
  prepared : IsPrepared l.plain;
  items : (k : ℕ) → k < length l.homes.items → file_in_place l.homes.items k ≡ file_in_place l.fn.homes.items k;
}

abbrev pub decreases-loop-file : goal.decreases-loop-file
decreases-loop-file l = length l.homes.items
