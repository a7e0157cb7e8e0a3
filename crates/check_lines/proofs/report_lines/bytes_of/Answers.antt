use Rattle.check_lines.proofs.{inl, inr, rules, bytes_fit, none_other, same_bytes, no_bytes}
use Rattle.check_lines.proofs.report_lines.bytes_of.Goals as goal

pub returns-in-Ok : goal.returns-in-Ok
returns-in-Ok c = record { fits = bytes_fit c.args.word.now c.in-Ok.ensures.ok; parsed = λ bytes fits same. same_bytes c.in-Ok.ensures.ok fits same }

pub returns-in-Err : goal.returns-in-Err
returns-in-Err c =
    elim c.in-Err.ensures.err [
      | inl memory ↦ search rules
      | inr fails ↦ record { fits = rw c.new.ensures.items no_bytes; parsed = λ bytes fits same. absurd (none_other bytes fails fits same) }
    ]
