-- A pointer and an allocator move out of a struct into another one. Each of the two structs owns
-- what a box of the same fields owns.
--     Move E      the two structs, how they are that box, and what is ensured
--     moves       a function with this code meets its contract
use Rattle.fx_box.proofs.Walking.{◌≡◌, refl, sym, subst, List, [], ◌∷◌, ◌++◌, Ura, Fn, Val, ent, emp, ftrue, fsep, Fml, WpFn, Logic, Item, ‵, raw}
use Rattle.fx_box.proofs.Walking.{◌⊛◌, ◌$◌, ◌∵◌, !, qed, by, move, drop, join, split, rewrite, fsplit, fjoin, suffices, done, whole, sub, agg, stop, fld}
use Rattle.fx_box.proofs.Walking.{no_more, and_then, of_opd, returns, enter, alloc_all, pass_all, free_all, look_at, get, get_in, sets, yes, plain}
use Rattle.fx_box.proofs.Walking.{nothing, says, Ended, Clauses, Stays, stay_dropped, walk_of, ends_at, Goes-dropped, RattleType, tables, fact}
use Rattle.fx_box.proofs.Walking.{Bx, D, B, word, box_typed, box_out, box_in, box_code}
use contract.Running.{Running}
use denote.Exit.{Last, left, rest}
use denote.Triple.Clauses.{closing}
use denote.Triple.Spec.{Meets}
use mir.Syntax.{Callee, place, field, copy, assign, rv_opd, aggregate, seq, return, local, value_local, ty_ptr}
use prog.Model.{Model}
use prog.Wp.{Closed}
use Rattle.core.proofs.alloc.Calls.{α}
use Rattle.std.proofs.raw_atomic.Walks.{proved_at}

pub record Move (E : Bx) : Type 2 where
  pub From : RattleType
  pub To : RattleType
  pub boxed : From.Denot → D E
  pub made : From.Denot → To.Denot
  pub takes : (v : From.Denot) (us : List Val) → From.own_val v us ≡ (B E).own_val (boxed v) us
  pub gives : (v : From.Denot) (us : List Val) → (B E).own_val (boxed v) us ≡ To.own_val (made v) us
  pub Ensures : From.Denot → To.Denot → Type 0
  pub holds : (v : From.Denot) → Ensures v (made v)
  pub quiet : (v : From.Denot) (f : Last (From.exit yes) v) → left (From.exit yes) v f ≡ ftrue

module _ {E : Bx} (m : Move E) where
  -- the code as it is generated, at the types' names
  abbrev pub moving : Fn
  moving = record {
    lifetimes = 0;
    outlives = [];
    ty_params = [];
    givens = 0;
    params = 1;
    locals = local (box_code E m.To) value_local ∷ local (box_code E m.From) value_local ∷ local ty_ptr value_local ∷ local (α E.al) value_local ∷ local ty_ptr value_local ∷ [];
    body = seq (assign (place 2 []) (rv_opd (copy (place 1 (field 0 ∷ []))))) (seq (assign (place 3 []) (rv_opd (copy (place 1 (field 1 ∷ [])))))
        (seq (assign (place 4 []) (rv_opd (copy (place 2 [])))) (seq (assign (place 0 []) (aggregate (copy (place 4 []) ∷ copy (place 3 []) ∷ []))) return)));
  }

  abbrev ended : Ended
  ended = record { signature = record { lifetimes = 0; outlives = []; params = plain (λ _. m.From) ∷ []; result = plain (λ _. m.To) }; kept = (yes, tt) }

  abbrev stayed : Stays ended.signature.params ended.kept
  stayed = (stay_dropped (plain (λ _. m.From)) yes, tt)

  module _ {M : Type 1} {𝓤 : Ura M} (𝓛 : Logic 𝓤) (𝓜 : Model 𝓤 𝓛.H) (𝓡 : Running 𝓤 𝓛.H 𝓜) where
    open 𝓛 use {H}

    abbrev held : Clauses 𝓤 ended
    held κs a = record { ghost = Unit {0}; requires = λ _. emp 𝓤; ensures = λ _ r _. fact 𝓤 (m.Ensures a.0 r) }

    walk : (z : (walk_of 𝓛 ended stayed held).Ghost) → ent 𝓤 ((walk_of 𝓛 ended stayed held).pre z)
        (WpFn 𝓤 H (tables 𝓤 H 𝓜 𝓡 𝓡.env).C (tables 𝓤 H 𝓜 𝓡 𝓡.env).Λ moving (z.0.4.0 ++ []) ((walk_of 𝓛 ended stayed held).post z))
    walk z =
        let 𝓣 = tables 𝓤 H 𝓜 𝓡 𝓡.env in let Post = (walk_of 𝓛 ended stayed held).post z in let x = z.0.3.0 in let v : D E = m.boxed x in
        qed 𝓛 ((‵ ftrue ⊛ ‵ (fsep (m.From.own_val x z.0.4.0) ftrue)) ∷ raw (emp 𝓤) ∷ []) ∵ split ! $ drop ! $ fsplit ! $ rewrite ! 0 (λ (F : Fml). ‵ F) (m.takes x z.0.4.0) refl $
        box_out E ! v z.0.4.0 (λ b o hv e ws fa. box_in E ! v b o v.value e refl $ rewrite ! 0 (λ (F : Fml). ‵ F) (m.gives x (word E hv b o ∷ [])) refl $ move ! (1 ∷ 2 ∷ []) $ drop ! $ drop ! $
        let w = word E hv b o in
        let Γ : List (Item 𝓤) = ‵ (m.To.own_val (m.made x) (w ∷ [])) ∷ [] in
        by ! (subst (λ (us : List Val). ent 𝓤 (types.Kit.⋆ 𝓛 Γ) (WpFn 𝓤 H 𝓣.C 𝓣.Λ moving (us ++ []) Post)) (sym ws)
        (qed 𝓛 Γ ∵ enter ! 𝓣.C 𝓣.Λ moving (w ∷ []) _ $ alloc_all ! (λ ls. pass_all ! refl (box_typed E hv b o fa, tt) $
        sets ! (of_opd ! (get_in ! (fld ! refl (stop !)) (sub ! 0 refl (whole !)))) refl (tt, tt) $ sets ! (of_opd ! (get_in ! (fld ! refl (stop !)) (sub ! 1 refl (whole !)))) refl fa $
        sets ! (of_opd ! (get ! refl)) refl (tt, tt) $
        sets ! (agg ! (and_then ! (get ! refl) (and_then ! (get ! refl) (no_more !)))) refl (box_typed E hv b o fa) $ returns ! (look_at ! 0 refl) $ free_all ! refl $
        suffices ! _ (ends_at 𝓛 ended stayed held z w (m.made x) (rest (m.From.exit yes) x, tt) (tt, tt)) $ says ! (m.holds x) $
        nothing ! $ nothing ! $ fjoin ! $ join ! $ nothing ! $ join ! $ done !))))

    pub moves : (k : Callee) → Closed 𝓤 H (tables 𝓤 H 𝓜 𝓡 𝓡.env).C (tables 𝓤 H 𝓜 𝓡 𝓡.env).Λ k moving
        → Meets 𝓛 ended.signature ((tables 𝓤 H 𝓜 𝓡 𝓡.env).C k) (closing 𝓛 ended held)
    moves k closed =
        proved_at 𝓛 ended stayed held 𝓜 𝓡 (Goes-dropped 𝓛 0 (plain (λ _. m.From)) yes (λ κs x f. m.quiet x f), tt) k moving closed (λ z are. walk z)
