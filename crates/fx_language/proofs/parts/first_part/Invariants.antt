use Rattle.std.proofs.Common.{◌≡◌, ◌==◌, false, take, All}
use Rattle.fx_language.proofs.parts.first_part.Given as goal

-- no byte so far is the one at which the text is cut
abbrev pub invariant-loop-i : goal.invariant-loop-i
invariant-loop-i l = All (λ b. (b == l.at) ≡ false) (take l.i l.text)
