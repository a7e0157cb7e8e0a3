use Rattle.check_judge.proofs.{IfOk-weaker, sym, instruction_of, string_bytes}
use Rattle.check_judge.proofs.Plays.{call_keeps, fails, found, never}
use Rattle.check_judge.proofs.command.play_call.Goals as goal

pub returns-in-Here-clause-step : goal.returns-in-Here-clause-step
returns-in-Here-clause-step c =
    found c.args.catalogue.now c.args.ring.now (instruction_of c.args.command.now) c.args.text.now c.requires.kept c.requires.call
    (string_bytes c.in_ok-called.called.line) c.in_ok-called.ensures.line c.in_ok-called.called.ring c.in_ok-called.ensures.value c.in-Here.ensures

pub returns-in-Here-clause-kept : goal.returns-in-Here-clause-kept
returns-in-Here-clause-kept c =
    call_keeps c.args.catalogue.now c.args.ring.now c.in_ok-called.called.ring (instruction_of c.args.command.now) c.requires.kept
    c.in_ok-called.ensures.value c.in_ok-called.ensures.few c.in_ok-called.ensures.in_range

pub returns-in-Some-clause-step : goal.returns-in-Some-clause-step
returns-in-Some-clause-step c =
    IfOk-weaker c.or_no_memory.result _ _ (fails c.args.catalogue.now c.args.ring.now (instruction_of c.args.command.now) c.args.text.now c.requires.kept
    c.requires.call (string_bytes c.in_ok-called.called.line) c.in_ok-called.ensures.line c.in-Apart.ensures (sym c.in-Some.ensures))
    c.or_no_memory.ensures

pub returns-clause-step : goal.returns-clause-step
returns-clause-step c =
    never c.args.catalogue.now c.args.ring.now (instruction_of c.args.command.now) c.args.text.now c.requires.kept c.requires.call
    (string_bytes c.in_ok-called.called.line) c.in_ok-called.ensures.line c.in-Apart.ensures (sym c.in-None.ensures)
