use Rattle.fx_script.proofs.{subst, sym, err_from_is_err_and, IsInputFault, IsKept, script_kept, fault_kept}
use Rattle.fx_script.proofs.runner.read_script.Goals as goal

pub returns-in_err-script-clause-fault : goal.returns-in_err-script-clause-fault
returns-in_err-script-clause-fault g c =
    let passed = err_from_is_err_and c.from_residual-in_err-script.result c.from_residual-in_err-script.ensures.1 in
    let input = g.I.Read.remaining c.args.reader.now in
    let kept = subst (IsKept input) (sym c.as_slice.ensures.value) c.in_ok-input.ensures.kept in
    let fault = fault_kept input c.as_slice.result.now c.in_err-script.field-0.0 kept c.in_err-script.ensures.fault in
    rw passed.1 (subst (IsInputFault input) (sym passed.2) fault)

pub returns-clause-script : goal.returns-clause-script
returns-clause-script g c =
    let input = g.I.Read.remaining c.args.reader.now in
    let kept = subst (IsKept input) (sym c.as_slice.ensures.value) c.in_ok-input.ensures.kept in
    script_kept input c.as_slice.result.now kept c.in_ok-script.ensures.script
