use Rattle.check_judge.proofs.{◌≡◌, ◌++◌, List, ℕ, true, false, sym, ap, ◌∙◌, Decides-eqb}
use Rattle.std.proofs.lemmas.Slice.Eq.{starts_is}
use Rattle.check_judge.proofs.command.meet.Goals as goal

pub returns : goal.returns
returns c = λ others split.
    let both = starts_is Decides-eqb c.args.text.now c.as_bytes.result.now c.starts_with.result c.starts_with.ensures.value in
    let yes : c.starts_with.result ≡ true = both.1 others (split ∙ ap (λ (l : List ℕ). l ++ others) (sym c.as_bytes.ensures.value)) in
    let no : c.starts_with.result ≡ false = c.if-starts_with.false in
    cc
