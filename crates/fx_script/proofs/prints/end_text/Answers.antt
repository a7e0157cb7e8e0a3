use Rattle.fx_script.proofs.{rules, ◌≡◌, [], string_bytes, subst, sym, ring_of, PrintsEnd, nothing_left}
use Rattle.fx_script.proofs.prints.end_text.Goals as goal

pub returns-then-size-eq0-clause-end : goal.returns-then-size-eq0-clause-end
returns-then-size-eq0-clause-end c =
    let none : string_bytes c.new.result ≡ [] = search rules in
    subst (PrintsEnd (ring_of c.args.ring.now)) (sym none) (nothing_left (ring_of c.args.ring.now) (search rules))
