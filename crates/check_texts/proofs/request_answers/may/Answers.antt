use Rattle.check_texts.proofs.{completed_of, instructions_of, said_in, stages_of, IsAskedIn, MayAnswerIn, Said, false, sym, ◌∙◌, all_of_values}
use Rattle.check_texts.proofs.Plays.{answer_is_said, none_answered, said_is_answered}
use Rattle.check_texts.proofs.request_answers.may.Goals as goal

pub answers_at-requires : goal.answers_at-requires
answers_at-requires c = rw c.deref.ensures.value c.in_ok-rings.ensures.rings

pub returns-in_default-clause-all : goal.returns-in_default-clause-all
returns-in_default-clause-all c = λ _ it may. absurd (none_answered (rw c.commands.ensures at c.in_default.ensures.none) may)

pub returns-clause-each : goal.returns-clause-each
returns-clause-each c =
    let script = c.args.script.now in
    let place = c.args.place in
    let a : IsAskedIn (instructions_of c.commands.result.now) place c.in-Some.asking = c.in-Some.ensures.some in
    all_of_values (λ (said : Said). completed_of said.completion) c.in_ok-answers.answers.items (MayAnswerIn script place)
    (λ it inside.
    let (o, there, says) = c.in_ok-answers.ensures.each it inside in
    said_is_answered script place _ _ _ (sym c.commands.ensures ∙ a.split) a.number false
    (rw c.catalogue.ensures.value at (c.in_ok-rings.ensures.each o (rw c.deref.ensures.value at there)))
    (rw a.place_same at says))

pub returns-clause-all : goal.returns-clause-all
returns-clause-all c = λ yes it may.
    let script = c.args.script.now in
    let a : IsAskedIn (instructions_of c.commands.result.now) c.args.place c.in-Some.asking = c.in-Some.ensures.some in
    let two = c.both.ensures yes in
    answer_is_said script c.args.place _ _ _ (sym c.commands.ensures ∙ a.split) a.number false
    (stages_of c.catalogue.result.now c.deref.result.now) (said_in c.in_ok-answers.answers.items) a.counted
    (rw (c.deref.ensures.value, sym c.catalogue.ensures.value) (c.in_ok-rings.ensures.all two.0))
    (rw a.place_same at (c.in_ok-answers.ensures.all two.1)) may
