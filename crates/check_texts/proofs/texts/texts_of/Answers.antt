use Rattle.check_texts.proofs.{AreWays, CountsUpTo, ltb-true, IsTextFound, length, rests_in, string_bytes, ways_at, ◌≡◌, All-nil, new_ring, false}
use Rattle.check_texts.proofs.{true, all_of_values, no_script_ways, rests_counted, script_text, script_texts, script_ways}
use Rattle.check_texts.proofs.texts.texts_of.Goals.{In-Some}
use Rattle.check_texts.proofs.texts.texts_of.Goals as goal

pub returns-in_default-clause-each : goal.returns-in_default-clause-each
returns-in_default-clause-each c = rw c.new.ensures.empty (All-nil _)

pub returns-in_default-clause-all : goal.returns-in_default-clause-all
returns-in_default-clause-all c = λ yes text found. absurd (let e : false ≡ true = yes in cc)

pub returns-in_default-clause-ways : goal.returns-in_default-clause-ways
returns-in_default-clause-ways c = no_script_ways c.args.script.now

-- the ways of the first ring
first_ways : (c : In-Some)
    → AreWays (new_ring c.args.script.now.catalogue) c.args.script.now.commands c.in-Some.rest.now.are_all
    (ways_at (rests_in c.in_ok-rests.rests.items) 0)
    × CountsUpTo c.in-Some.rest.now.ways (length (ways_at (rests_in c.in_ok-rests.rests.items) 0))
first_ways c =
    let are = rw (c.catalogue.ensures.value, c.in_ok-layers.ensures.commands, c.commands.ensures) at c.in_ok-rests.ensures in
    rw c.deref.ensures.value at (c.in-Some.ensures c.args.script.now.catalogue c.args.script.now.commands (rw c.deref.ensures.value are))

pub each_text-requires : goal.each_text-requires
each_text-requires c = rw c.deref-2.ensures.value (rests_counted _ _ _ c.in_ok-rests.ensures)

pub returns-clause-each : goal.returns-clause-each
returns-clause-each c =
    let at = (goal.at.returns-clause-each c).In-Some in
    all_of_values string_bytes c.in_ok-texts.texts.keys (IsTextFound c.args.script.now) (λ text inside.
    script_text c.args.script.now (first_ways at).0 text (rw c.deref-2.ensures.value at (c.in_ok-texts.ensures.each text inside)))

pub returns-clause-all : goal.returns-clause-all
returns-clause-all c = λ yes text found.
    let at = (goal.at.returns-clause-all c).In-Some in
    let whole = c.both.ensures yes in
    let counted = c.both-are_counted.ensures whole.0 in
    c.in_ok-texts.ensures.all whole.1 (rw c.deref-2.ensures.value ((first_ways at).1.same (ltb-true _ _ counted.1))) text
    (rw c.deref-2.ensures.value (script_texts c.args.script.now (first_ways at).0 counted.0 text found))

pub returns-clause-ways : goal.returns-clause-ways
returns-clause-ways c =
    let at = (goal.at.returns-clause-ways c).In-Some in
    script_ways c.args.script.now (first_ways at).0 _ _ (first_ways at).1
    (λ yes. let counted = c.both-are_counted.ensures yes in (counted.0, ltb-true _ _ counted.1))
