use Rattle.fx_server.proofs.EndsOfKeys.{done_removals, done_replacements, keys_end_once}
use Rattle.fx_server.proofs.laws.a_key_ends_once.Goals as goal

pub returns-clause-once : goal.returns-clause-once
returns-clause-once c = keys_end_once

pub returns-clause-removals : goal.returns-clause-removals
returns-clause-removals c = done_removals

pub returns-clause-replacements : goal.returns-clause-replacements
returns-clause-replacements c = done_replacements
