use Rattle.fx_lasting.proofs.slot_lemmas.OvertakenCalls.{each_has_its_change, lost_is_overtaken, removal_is_overtaken, replacement_is_overtaken}
use Rattle.fx_lasting.proofs.slot_lemmas.OvertakenCalls.{each_search_has_its_change, installations_are_overtaken, searches_are_overtaken}
use Rattle.fx_lasting.proofs.retries.overtaken_calls_end.Goals as goal

pub returns : goal.returns
returns c = record {
  each = each_has_its_change;
  lost = lost_is_overtaken;
  removal = removal_is_overtaken;
  replacement = replacement_is_overtaken;
  each_in_range = each_search_has_its_change;
  installation = installations_are_overtaken;
  search = searches_are_overtaken;
}
