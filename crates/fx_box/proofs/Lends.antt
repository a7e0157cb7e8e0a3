-- A struct that owns what a box of the same fields owns lends its value, and follows it.
--     Lender E    the struct, and how it is that box
--     lends       a function with this code meets its contract
use Rattle.fx_box.proofs.Walking.{◌≡◌, ℕ, List, [], ◌∷◌, refl, sym, proved, after, Ura, full_share, ent, sep, emp, id⊢, GName, Fml, ftrue, fsep, flft}
use Rattle.fx_box.proofs.Walking.{Fn, named, Val, vptr, tables, Logic, sem, ‵, raw, ◌⊛◌, some, later, at_ret, ◌$◌, ◌∵◌, !, qed, done, move, keep}
use Rattle.fx_box.proofs.Walking.{use1, split, split3, join, fsplit, fsplit3, fjoin, fpack, pick, await, rewrite, suffices, frame, group, enter, of_opd}
use Rattle.fx_box.proofs.Walking.{load, addr, stop, fld, first, blocks, exec, returns, alloc_all, pass_all, free_all, look_at, get, through, sets}
use Rattle.fx_box.proofs.Walking.{sets_last, env, whole, sub, look_in, no, follows, Part, lends_Part, cell_at, lone, mem, part_at, part_of, block_ptr}
use Rattle.fx_box.proofs.Walking.{MutRef, mut_vals, mut_Tells, plain, mut_ref_to, nothing, opens, Stays, walk_of, says, stay_dropped, Goes-spent_ref}
use Rattle.fx_box.proofs.Walking.{ends_at, Ended, Clauses, RattleType, fact, token, Bx, D, R, B, word, box_out, box_in, box_code, name_of}
use contract.Running.{Running}
use denote.Triple.Clauses.{closing}
use denote.Triple.Spec.{Meets}
use mir.Raw.{raw as bare}
use mir.Syntax.{Callee, Ty, erased, mut, ty_ptr, ty_ref, ty_named, tnil, local, value_local, place, deref, field, copy, rv_opd, addr_of, seq, assign, block, return}
use prog.Model.{Model}
use prog.Wp.{Closed}
use Rattle.std_alloc.proofs.BoxSteps.Form.{τ, handle}
use Rattle.std_alloc.specs.Box.{with_value}

pub record Lender (E : Bx) : Type 2 where
  pub row : RattleType
  pub boxed : row.Denot → D E
  pub put : row.Denot → E.row.Denot → row.Denot
  pub takes : (h : row.Denot) (us : List Val) → row.own_val h us ≡ (B E).own_val (boxed h) us
  pub gives : (h : row.Denot) (w : E.row.Denot) (us : List Val) → (B E).own_val (with_value (boxed h) w) us ≡ row.own_val (put h w) us
  pub lies : (w : E.row.Denot) (b o : ℕ) → part_at (R E) full_share w b o ≡ part_at E.row full_share w b o

module _ {E : Bx} (l : Lender E) where
  abbrev V : RattleType
  V = E.row

  abbrev L : RattleType
  L = record l.row { mir = box_code E l.row ∷ [] }

  abbrev to_value : Ty
  to_value = ty_named (name_of V, []) tnil

  -- the code as it is generated, at the types' names
  abbrev pub lending : Fn
  lending = record {
    lifetimes = 1;
    outlives = [];
    ty_params = [];
    givens = 0;
    params = 1;
    locals = local (ty_ref (named 0) mut to_value) value_local ∷ local (ty_ref (named 0) mut (ty_named (name_of l.row, []) tnil)) value_local ∷ local (ty_ref erased mut to_value) value_local
        ∷ local ty_ptr value_local ∷ local ty_ptr value_local ∷ [];
    body = seq (block (seq (assign (place 3 []) (rv_opd (copy (place 1 (deref (box_code E l.row) ∷ field 0 ∷ []))))) (seq (assign (place 4 []) (rv_opd (copy (place 3 []))))
        (assign (place 2 []) (addr_of (place 4 (deref (lone V.mir) ∷ []))))))) (seq (assign (place 0 []) (rv_opd (copy (place 2 [])))) return);
  }

  abbrev ended : Ended
  ended = record {
    signature = record { lifetimes = 1; outlives = []; params = mut_ref_to (0 ∷ []) tt (plain (λ _. L)) ∷ []; result = mut_ref_to (0 ∷ []) tt (plain (λ _. V)) };
    kept = (no, tt);
  }

  abbrev stayed : Stays ended.signature.params ended.kept
  stayed = (stay_dropped (mut_ref_to (0 ∷ []) tt (plain (λ _. L))) no, tt)

  module _ {M : Type 1} {𝓤 : Ura M} (𝓛 : Logic 𝓤) where
    abbrev held : Clauses 𝓤 ended
    held κs a = record {
      ghost = Unit {0};
      requires = λ _. emp 𝓤;
      ensures = λ _ r _. sep 𝓤 (sem 𝓛 (follows L V a.0.ghost_name r.ghost_name (l.put a.0.now))) (fact 𝓤 (r.now ≡ (l.boxed a.0.now).value));
    }

    module _ (h : L.Denot) (b o b' o' : ℕ) (hv : Val) where
      -- all of the struct but its value
      abbrev Rest : Fml
      Rest = fsep (fsep (token E.al (l.boxed h).alloc (bare (τ E)) (block_ptr b' o')) (handle E (l.boxed h).alloc hv)) (cell_at full_share L.mir (word E hv b' o' ∷ []) b o)

      back : (l.boxed h).ptr ≡ block_ptr b' o' → (w : V.Denot) → ent 𝓤 (sep 𝓤 (sem 𝓛 ((mem V).own_at w b' o')) (sem 𝓛 Rest)) (sem 𝓛 ((mem L).own_at (l.put h w) b o))
      unfolding part_of
      back e w =
          qed 𝓛 (‵ (part_at V full_share w b' o') ∷ ‵ Rest ∷ []) ∵ rewrite ! 0 (λ (F : Fml). ‵ F) (sym (l.lies w b' o')) refl $ move ! (1 ∷ []) $ fsplit ! $ fsplit ! $ move ! (3 ∷ []) $
          box_in E ! (with_value (l.boxed h) w) b' o' w e refl $ rewrite ! 0 (λ (F : Fml). ‵ F) (l.gives h w (word E hv b' o' ∷ [])) refl $ move ! (1 ∷ 0 ∷ []) $ fjoin ! $
          fpack ! (List Val) (λ us. fsep (cell_at full_share L.mir us b o) (L.own_val (l.put h w) us)) (word E hv b' o' ∷ []) $ done !

    pub lends : (𝓜 : Model 𝓤 𝓛.H) (𝓡 : Running 𝓤 𝓛.H 𝓜) (k : Callee) → Closed 𝓤 𝓛.H (tables 𝓤 𝓛.H 𝓜 𝓡 𝓡.env).C (tables 𝓤 𝓛.H 𝓜 𝓡 𝓡.env).Λ k lending
        → Meets 𝓛 ended.signature ((tables 𝓤 𝓛.H 𝓜 𝓡 𝓡.env).C k) (closing 𝓛 ended held)
    lends 𝓜 𝓡 k closed =
        let W = walk_of 𝓛 ended stayed held in let 𝓣 = tables 𝓤 𝓛.H 𝓜 𝓡 𝓡.env in
        proved 𝓛 ended stayed held 𝓜 𝓡 (Goes-spent_ref 𝓛 1 (0 ∷ []) tt (plain (λ _. L)), tt) k lending closed (λ κs. (mut_vals, tt)) (λ κs. (mut_Tells (named 0) κs.0 L, tt)) (λ κs qs bounds a _ are.
        let κ = κs.0 in let q = qs.0 in let b = a.0.ref_ptr.0 in let o = a.0.ref_ptr.1 in let γ = a.0.ghost_name in let h = a.0.now in let us = mut_vals a.0 in
        let y : W.Ghost = ((κs, qs, bounds, a, (us, tt)), tt) in
        qed 𝓛 (((‵ (flft κ q) ⊛ ‵ ftrue) ⊛ ‵ ((MutRef (named 0) κ L).own_val a.0 us) ⊛ ‵ ftrue) ∷ ‵ ftrue ∷ []) ∵
        split ! $ split ! $ move ! (2 ∷ []) $ split ! $ keep ! (0 ∷ 2 ∷ []) $
        enter ! _ _ _ _ _ $ alloc_all ! (λ ls. pass_all ! refl ((tt, tt), tt) $
        fsplit3 ! $ move ! (1 ∷ 2 ∷ 3 ∷ []) $ opens ! tt L b o (λ vs. move ! (1 ∷ []) $ rewrite ! 0 (λ (F : Fml). ‵ F) (l.takes h vs) refl $
        box_out E ! (l.boxed h) vs (λ b' o' hv e ws fa. rewrite ! 0 (λ (F : Fml). ‵ F) (l.lies (l.boxed h).value b' o') refl $
        move ! (1 ∷ 2 ∷ []) $ fjoin ! $ move ! (1 ∷ []) $ rewrite ! 2 (λ (us : List Val). ‵ (cell_at full_share L.mir us b o)) ws refl $
        -- [the value; the right to free; the cell; the open borrow, in three entries]
        first ! $ blocks ! $
        sets ! (of_opd ! (load ! (through ! refl (fld ! refl (stop !))) (look_in ! 2 (sub ! 0 refl (whole !))))) refl (tt, tt) $
        sets ! (of_opd ! (get ! refl)) refl (tt, tt) $
        sets_last ! (addr ! (through ! refl (stop !))) refl (tt, tt) $
        exec ! 𝓣.C 𝓣.Λ (env lending.locals ls) (after 1 lending.body) (at_ret _ (W.post y)) $
        sets ! (of_opd ! (get ! refl)) refl (tt, tt) $
        move ! (1 ∷ 2 ∷ []) $ fjoin ! $ move ! (2 ∷ 3 ∷ 4 ∷ 1 ∷ 0 ∷ []) $ group ! 5 $
        use1 𝓛 (later (some (λ (δ : GName). raw (Part 𝓛 L V (l.put h) (named 0) κ q b o b' o' γ (sem 𝓛 (Rest h b o b' o' hv)) (back h b o b' o' hv e) (l.boxed h).value δ))))
        (lends_Part 𝓛 L V (l.put h) (named 0) κ q b o b' o' γ (sem 𝓛 (Rest h b o b' o' hv)) (back h b o b' o' hv e) (L.coded.code h) (L.coded.code h) (l.boxed h).value) $ await ! tt $ pick ! (λ δ.
        let r : (MutRef (named 0) κ V).Denot = record { ref_ptr = (b', o'); ghost_name = δ; now = (l.boxed h).value } in
        returns ! (look_at ! 0 refl) $ free_all ! refl $ keep ! (0 ∷ []) $
        use1 𝓛 (‵ ((MutRef (named 0) κ V).own_val r (vptr b' o' ∷ [])) ⊛ ‵ (flft κ q) ⊛ ‵ (follows L V γ δ (l.put h))) (id⊢ 𝓤 _) $ split3 ! $
        suffices ! _ (ends_at 𝓛 ended stayed held y (vptr b' o') r (tt, tt) (tt, tt)) $
        nothing ! $ nothing ! $ fjoin ! $ join ! $ nothing ! $ move ! (2 ∷ 0 ∷ []) $ join ! $ join ! $ frame ! $ says ! refl $ done !)))))
