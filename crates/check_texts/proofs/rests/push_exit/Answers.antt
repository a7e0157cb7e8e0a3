use Rattle.check_texts.proofs.{map, refl, stage_of, string_bytes, true, rules, ◌∙◌, ◌≡◌, inserted, new_text, ways_more, ways_stay}
use Rattle.check_texts.proofs.rests.push_exit.Goals as goal

pub returns-in_default-clause-ways : goal.returns-in_default-clause-ways
returns-in_default-clause-ways c = λ command commands before behind leads there by.
    let cat = c.args.setting.now.catalogue.now in
    ways_stay cat command commands behind before (stage_of cat c.args.exit.now) (map string_bytes c.args.lines.now.keys) _ c.args.rest.now
    (inserted c.args.lines.now.keys c.in_ok-line.line c.in_ok-is_new.ensures.keys).0.kept by

pub returns-in_ok-push-in-Some-clause-ways : goal.returns-in_ok-push-in-Some-clause-ways
returns-in_ok-push-in-Some-clause-ways c = λ command commands before behind leads there by.
    let cat = c.args.setting.now.catalogue.now in
    let keys = c.args.lines.now.keys in
    let put = inserted keys c.in_ok-line.line c.in_ok-is_new.ensures.keys in
    let line_is = c.in_ok-line.ensures.ok ∙ c.as_str.ensures.value in
    let known = rw c.in-Some.is at there in
    let is_new : c.in_ok-is_new.is_new ≡ true = search rules in
    ways_more cat command commands behind before (stage_of cat c.args.exit.now) (map string_bytes keys) _ c.args.rest.now put.0.kept by _
    c.in-Some.later.now _ refl c.in_ok-push-in-Some.ensures.items (c.in_ok-from_str-in-Some.ensures.ok ∙ c.as_str-in-Some.ensures.value) refl
    c.saturating_add-rest.ensures leads known.0 known.1 (rw line_is at (new_text keys c.in_ok-line.line c.in_ok-is_new.ensures.added is_new))
    (rw line_is at put.1) c.both-rest.ensures
