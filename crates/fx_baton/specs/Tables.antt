-- A shared table as its callers see it.
use Rattle.fx_baton.specs.Words.{Opening, BatonPass}
use Rattle.fx_baton.specs.declared.table.BatonTable.{BatonTable}
use Rattle.fx_baton.specs.Rule.{opening_of}
use Rattle.fx_baton.specs.Passes.{IsPassOf}

abbrev pub opening_of_table : BatonTable → Opening
opening_of_table t = opening_of t.table.shared.key

abbrev pub IsPassOfTable : BatonTable → BatonPass → Type 0
IsPassOfTable t p = IsPassOf t.table.shared.table_id t.table.shared.key p
