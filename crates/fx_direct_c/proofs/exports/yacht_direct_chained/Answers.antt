use Rattle.std.proofs.Common.{◌≡◌, Some, None, true, refl, sym, ap, subst, ◌∙◌, w32}
use Rattle.std.specs.Prelude.{Ok, int_le, pos}
use Rattle.std.proofs.lemmas.Int.{to_z-of_z}
use Rattle.fx_direct.specs.Keys.{key_in_bits}
use Rattle.fx_direct.specs.Transitions.{AdvancesAndAsks, DirectMachine, completion}
use Rattle.fx_direct.specs.declared.key.LifeKey.{LifeKey}
use Rattle.fx_direct_c.specs.Answers.{member_numbered}
use Rattle.fx_direct_c.proofs.exports.yacht_direct_chained.Goals as goal

pub returns-then-advance : goal.returns-then-advance
returns-then-advance c =
    let old = c.args.machine.now.slots in let new = c.advance.new.self in let m = c.in-Some.its_member in
    let numbered : member_numbered c.args.member ≡ Some m = sym c.member_of.ensures ∙ c.in-Some.is in
    let succeeded : int_le (pos 0) c.args.result_of_member ≡ true = ap (int_le (pos 0)) (sym (to_z-of_z w32 c.args.result_of_member c.ranges.result_of_member)) ∙ c.if-result_of_member-ge0.true in
    let went : AdvancesAndAsks old (completion (key_in_bits c.args.key) m true) None new =
    subst (λ (k : LifeKey). AdvancesAndAsks old (completion k m true) None new) c.from_bits.ensures.key
    (subst (λ (w : DirectMachine). AdvancesAndAsks w (completion c.from_bits.result.0 m true) None new) c.as_mut.ensures.value (c.advance.ensures.went c.if-advance.true)) in
    rw (numbered, succeeded) (record { answer = Ok None; its_code = refl; its_slot = refl; made = went })
