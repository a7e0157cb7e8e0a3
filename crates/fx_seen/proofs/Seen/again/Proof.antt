-- `again` copies a loan, which costs nothing.
use Rattle.atomic_table.proofs.Names.{◌≡◌, [], ◌∷◌, refl, a_type, named, Val, vptr, inst_fn, SProp, emp, Fml, ftrue, fsep, flft, ‵, raw, ◌⊛◌, ◌$◌, ◌∵◌, !, qed, by, move, keep, drop, split, fsplit, fjoin, use0, use1, no_more, and_then, returns, enter, alloc_all, pass_all, free_all, look_at, get, sets, agg, tables, yes, RattleType, owns, types_at, plain, nothing, param, layouts, Stays, stay_dropped, walk_of, Goes-dropped, fact, fact_i, RefOf, shr_vals, shr_Tells, unhide, hidden_shr, lent_out}
use base.Fml.{fhide}
use Rattle.atomic_table.proofs.Walks.{proved, leaves}
use Rattle.core.specs.contracts.marker.PhantomData as marker
use Rattle.fx_seen.specs.Kept.{seen_owns}
use Rattle.fx_seen.specs.contracts.Seen as Seen
use Rattle.fx_seen.proofs.Ghost.{token, Token, token_made}
use Rattle.fx_seen.specs.contracts.Seen.again.{ended, clauses}
use Rattle.fx_seen.specs.contracts.Seen.again.Key.{name as #self}
use Rattle.fx_seen.proofs.Seen.again.Statement.{statement}
use Rattle.fx_seen.proofs.Seen.again.Code as code

pub again_spec : {M : Type 1} → statement M
again_spec 𝓤 𝓛 𝓜 𝓡 wired T _ =
    let H = 𝓛.H in let 𝓣 = tables 𝓤 H 𝓜 𝓡 𝓡.env in let W : RattleType = param 0 T in let En = ended T in let c = clauses T 𝓛 𝓜.mem 𝓡.returns in
    let inst = layouts (a_type ∷ []) (T, tt) in let fn = inst_fn inst code.function in let Nr : RattleType = Seen.the_row W in
    let hs : Stays En.signature.params En.kept = (stay_dropped (RefOf (0 ∷ []) tt (plain (λ _. Nr)) (λ _. tt)) yes, tt) in
    proved 𝓛 En hs c 𝓜 𝓡 (Goes-dropped 𝓛 2 (RefOf (0 ∷ []) tt (plain (λ _. Nr)) (λ _. tt)) yes (λ κs x f. refl), tt) (#self inst) fn (code.unfolded 𝓤 H 𝓜 𝓡 wired (T, tt))
    (λ κs. (shr_vals, tt)) (λ κs. (shr_Tells (named 0) κs.0 Nr, tt)) (λ κs qs bounds a gh are.
    let me : Nr.Denot = a.0.now in let Same : Type 0 = me ≡ me in
    let y : (walk_of 𝓛 En hs c).Ghost = ((κs, qs, bounds, a, (vptr a.0.ref_ptr.0 a.0.ref_ptr.1 ∷ [], tt)), gh) in let Post : Val → SProp 𝓤 = (walk_of 𝓛 En hs c).post y in let toks : Fml = fsep (flft κs.0 qs.0) (fsep (flft κs.1.0 qs.1.0) ftrue) in
    qed 𝓛 ((‵ toks ⊛ ‵ (owns (types_at En.signature.params κs) a y.0.4)) ∷ raw ((c κs a).requires gh) ∷ []) ∵ keep ! (0 ∷ []) $ split ! $
    fsplit ! $ move ! (2 ∷ []) $ fsplit ! $ fsplit ! $ keep ! (1 ∷ 3 ∷ 4 ∷ []) $
    enter ! 𝓣.C 𝓣.Λ fn (vptr a.0.ref_ptr.0 a.0.ref_ptr.1 ∷ []) Post $ alloc_all ! (λ l. pass_all ! refl ((tt, tt), tt) $
    use1 𝓛 (‵ (hidden_shr (Token W) κs.0 (tt, tt) a.0.ref_ptr.0 a.0.ref_ptr.1) ⊛ ‵ (fhide (seen_owns W.coded.code me.table_id me.id me.view))) (lent_out 𝓛 (Seen.struct W) (Seen.the_codes T.Denot W.coded (marker.the_row W).coded) (Seen.the_heap W) (Seen.the_lent W) κs.0 me a.0.ref_ptr.0 a.0.ref_ptr.1) $
    split ! $ drop ! $ unhide ! $ use0 𝓛 (‵ ((Token W).own_val (tt, tt) (token ∷ []))) (token_made W 𝓛) $ fjoin ! $ sets ! (agg ! (no_more !)) refl (tt, tt) $ sets ! (agg ! (and_then ! (get ! refl) (no_more !))) refl (tt, (tt, tt)) $
    move ! (1 ∷ 2 ∷ []) $ fjoin ! $ nothing ! $ nothing ! $ fjoin ! $ use0 𝓛 (raw (fact 𝓤 Same)) (fact_i 𝓤 Same (emp 𝓤) refl) $
    returns ! (look_at ! 0 refl) $ free_all ! refl $ keep ! (2 ∷ 1 ∷ 3 ∷ 0 ∷ []) $ by ! (leaves 𝓛 En hs c y token me (tt, tt) (tt, tt))))
