-- The law of a call by reference. A function that takes a record by `&mut` and calls one that takes it by value,
--     fn f(s: &mut S, ..) -> R { let t = callee(*s, ..); *s = t.first; t.second }
-- meets its contract where the callee meets its own. The parameters beside the record are a list (`Beside.antt`), and the law is over any such list.
--     Returned S R     what the callee returns: a struct of the record, its first field, and the answer, its second
--     callee, caller   the two signatures.        function      the function's MIR
--     Implies c d      the callee's contract c gives the function's contract d: at each call, a ghost value of the callee's, that what d requires shows what c requires, and that what c ensures of what is returned shows what d ensures of the answer and of the record at exit
--     by_reference     the law
-- The walk: the record's borrow is opened and the record is copied; each `&mut [u8]` is lent again; the callee is called, and has the slices for good; the record that it returns is put into a local and from there stored, and the borrow is closed at it.
-- Assumes nothing.
use mathlib.Core.Path.{◌≡◌, refl, sym, ap, subst}
use Prim.Native.Nat.{ℕ, suc}
use mathlib.Core.List.{List, [], ◌∷◌, map}
use lib.Dec.{T}
use lib.ListN.{length, drop as skip}
use seplogic.Ra.Ura.{Ura}
use base.Fraction.{full_share}
use mir.Syntax.{Callee, Sym, Ty, ty_ref, ty_struct, tnil, tcons, named, mut, deref, field, place, copy, rv_opd, seq, assign, call, return, local, value_local, Fn}
use mir.Val.{Val, vptr, vstruct, vnil, vcons, WT, has_ty}
use base.Logic.{SProp, ent, id⊢, sep, via, comm∗, wand, wand_i, apply∗, mono_l}
use base.Fml.{Fml, fat, froom, fdies, fres, fobs, fbor, flft}
use prog.Model.{Model}
use prog.Routine.{Routine, Env as Routines}
use prog.Wp.{Calls, Loops, WpFn, Closed}
use types.Logic.{Logic, sem}
use contract.Lifetimes.{Lfts, Shares, toks}
use contract.Running.{Running, tables, tables_of}
use types.Kit.{Item, ‵, raw, some, later, ◌⊛◌, ⋆, Go, at_ret, runs, Seq, ◌$◌, ◌∵◌, !, qed, by, move, drop, use1, use3, split, join, pick, rewrite, fsplit, fsplit3, fjoin, show, updating, now as at_once, frame, await, done}
use types.Run.{look, look_raw, init, store_raw, forget, stop, hop, fld, from, load, of_opd, and_then, assigns, land, returns, enter, alloc1, alloc0, params1, pass1, free1, free0}
use types.Part.{whole, sub, look_in}
use types.SemTy.{Body}
use sound.WpLaws.{FmC, fm_of}
use denote.Exit.{yes}
use denote.RattleType.{RattleType, Denots, flat, owns}
use denote.Memory.{cell_at, mem, pointee}
use denote.Laws.{Is, Tells, shows}
use denote.Ref.{MutBor, mut_vals, mut_Tells}
use denote.Signature.{plain, mut_ref_to, types_at}
use denote.Steps.{only, said, opens, closes, owned, peeks}
use denote.Struct.Steps.{spelt}
use denote.Struct.Struct.{as_fields}
use denote.Triple.Entry.{Vals, on_entry}
use denote.Triple.Spec.{Meets, Back, triple_of}
use denote.Triple.Statement.{Contract, Triple}
use denote.Triple.Call.{calls_at}
use denote.Triple.End.{all, lasts_of}
use denote.Triple.Clauses.{Ended, Clauses, Lasts, at_exit, lasts, ensured, closing}
use denote.Triple.Table.{entered, cited}
use Rattle.raydulcimer.proofs.Locals.{Blocks, values, env, cells, deaths, alloc_all, pass_all, free_all, forget_all, at_local, next, after, past_all}
use Rattle.raydulcimer.proofs.Beside.{Plain, fits, Parameter, inner, outer, tys, temps, relend, opds, past, Outers, Inners, givens, gots, words, temp_words, spells, outer_vals, inner_vals, tell_all, AreAll, fit_all, hand_all, tell_lasts, relends, operands}

pub record Returned (S R : Plain) : Type 2 where
  pub row : RattleType
  pub name : Sym
  pub first : row.Denot → S.row.Denot
  pub second : row.Denot → R.row.Denot
  pub tells : Tells row (Is row) (λ t. vstruct (vcons (S.val (first t)) (vcons (R.val (second t)) vnil)) ∷ [])
  pub first_is : (t : row.Denot) (vs : List Val) → Is row t vs → Is S.row (first t) (S.val (first t) ∷ [])
  pub second_is : (t : row.Denot) (vs : List Val) → Is row t vs → Is R.row (second t) (R.val (second t) ∷ [])

module _ {n : ℕ} {S R : Plain} (P : Returned S R) (ks : List (Parameter n)) where
  -- ---- the two signatures, and the code
  abbrev pub callee : Ended
  callee = record { signature = record { lifetimes = n; outlives = []; params = plain (λ _. S.row) ∷ map inner ks; result = plain (λ _. P.row) }; kept = (yes, all yes (map inner ks)) }

  abbrev pub caller : Ended
  caller = record { signature = record { lifetimes = suc n; outlives = []; params = mut_ref_to (0 ∷ []) tt (plain (λ _. S.row)) ∷ map outer ks; result = plain (λ _. R.row) }; kept = (yes, all yes (map outer ks)) }

  -- the locals of what the callee returns, of the record's copy and of the new record, and the types of the reference and of what the callee returns
  abbrev t_local : ℕ
  t_local = suc (suc (length ks))

  abbrev s_local : ℕ
  s_local = suc t_local

  abbrev u_local : ℕ
  u_local = after (suc s_local) (temps ks)

  abbrev ref_ty : Ty
  ref_ty = ty_ref (named 0) mut (pointee S.row.written)

  abbrev t_ty : Ty
  t_ty = ty_struct P.name (tcons S.ty (tcons R.ty tnil))

  abbrev pub function : Callee → Fn
  function f = record {
    lifetimes = suc n;
    outlives = [];
    ty_params = [];
    givens = 0;
    params = suc (length ks);
    locals = local R.ty value_local ∷ local ref_ty value_local ∷ values (tys ks) (local t_ty value_local ∷ local S.ty value_local ∷ values (temps ks) (local S.ty value_local ∷ []));
    body = seq (assign (place s_local []) (rv_opd (copy (place 1 (deref S.ty ∷ [])))))
        (relend 2 (suc s_local) ks
        (seq (call f (copy (place s_local []) ∷ opds 2 (suc s_local) ks) (place t_local []))
        (seq (assign (place u_local []) (rv_opd (copy (place t_local (field 0 ∷ [])))))
        (seq (assign (place 1 (deref S.ty ∷ [])) (rv_opd (copy (place u_local []))))
        (seq (assign (place 0 []) (rv_opd (copy (place t_local (field 1 ∷ []))))) return)))));
  }

  abbrev pub Implies : {M : Type 1} (𝓤 : Ura M) → Clauses 𝓤 callee → Clauses 𝓤 caller → Type 1
  Implies 𝓤 c d = (κs : Lfts (suc n)) (x : MutBor S.row.Denot) (a : Denots (Outers κs ks)) (g : (d κs (x, a)).ghost)
      → (h : (c κs.1 (x.now, givens κs ks a)).ghost)
      × ent 𝓤 ((d κs (x, a)).requires g) ((c κs.1 (x.now, givens κs ks a)).requires h)
      × ((t : P.row.Denot) (ws : Lasts callee κs.1 (x.now, givens κs ks a))
      → ent 𝓤 ((c κs.1 (x.now, givens κs ks a)).ensures h t (at_exit callee κs.1 (x.now, givens κs ks a) ws)) ((d κs (x, a)).ensures g (P.second t) (at_exit caller κs (x, a) (P.first t, gots κs ks a ws.1))))

  module _ {M : Type 1} {𝓤 : Ura M} (𝓛 : Logic 𝓤) (c : Clauses 𝓤 callee) (d : Clauses 𝓤 caller) (follows : Implies 𝓤 c d)
      (C : Calls 𝓤 𝓛.H) (Λ : Loops 𝓤 𝓛.H) (fm : FmC 𝓤 𝓛.H 𝓛.laws C) (f : Callee) (known : Triple 𝓤 (C f) (triple_of 𝓛 callee.signature (closing 𝓛 callee c))) where
    open 𝓛 use {H}

    abbrev Called : Contract 𝓤
    Called = triple_of 𝓛 callee.signature (closing 𝓛 callee c)

    abbrev Calling : Contract 𝓤
    Calling = triple_of 𝓛 caller.signature (closing 𝓛 caller d)

    -- what the callee returns is of its MIR type
    fits_t : (t : P.row.Denot) (w : Val) → Is P.row t (w ∷ []) → T (has_ty t_ty w) × WT w
    fits_t t w is = subst (λ (u : Val). T (has_ty t_ty u) × WT u) (sym (ap only (P.tells t (w ∷ []) is)))
        (as_fields (S.ty ∷ R.ty ∷ []) (S.val (P.first t) ∷ R.val (P.second t) ∷ []) (fits 𝓛 S (P.first t) (P.first_is t (w ∷ []) is), (fits 𝓛 R (P.second t) (P.second_is t (w ∷ []) is), tt)))

    module _ (κs : Lfts (suc n)) (qs : Shares (suc n)) (x : MutBor S.row.Denot) (a : Denots (Outers κs ks)) (g : (d κs (x, a)).ghost) (are : AreAll κs ks a) where
      -- what the callee is given: the record, the other arguments, and the ghost value
      abbrev h : S.row.Denot
      h = x.now

      abbrev b : Denots (Inners κs ks)
      b = givens κs ks a

      abbrev g' : (c κs.1 (h, b)).ghost
      g' = (follows κs x a g).0

      -- the tokens of the other arguments' lifetimes, what they own, and what the function requires
      abbrev tokens : Item 𝓤
      tokens = raw (toks 𝓛 n κs.1 qs.1)

      abbrev others : Fml
      others = owns (Outers κs ks) a (outer_vals κs ks a)

      abbrev asked : Item 𝓤
      asked = raw ((d κs (x, a)).requires g)

      -- that the record behind the reference is z, and its cell
      abbrev obs : S.row.Denot → Fml
      obs z = fobs x.ghost_name (S.row.coded.code z)

      abbrev cell : List Ty → S.row.Denot → Item 𝓤
      cell τs z = ‵ (cell_at full_share τs (S.val z ∷ []) x.ref_ptr.0 x.ref_ptr.1)

      -- what the two triples bind outside
      abbrev to : Called.Ghost
      to = ((κs.1, qs.1, tt, (h, b), (S.val h ∷ [], inner_vals κs ks a)), g')

      abbrev y : Calling.Ghost
      y = ((κs, qs, tt, (x, a), (mut_vals x, outer_vals κs ks a)), g)

      -- what the callee says of the last values, and what it ensures
      abbrev last_values : Lasts callee κs.1 (h, b) → Fml
      last_values ws = lasts_of κs.1 (map inner ks) (all yes (map inner ks)) b ws.1

      abbrev says : P.row.Denot → Lasts callee κs.1 (h, b) → Item 𝓤
      says t ws = raw ((c κs.1 (h, b)).ensures g' t (at_exit callee κs.1 (h, b) ws))

      asks : Is S.row h (S.val h ∷ []) → ent 𝓤 (⋆ 𝓛 (tokens ∷ ‵ others ∷ asked ∷ [])) (Called.pre to)
      asks is =
          qed 𝓛 (tokens ∷ ‵ others ∷ asked ∷ []) ∵ move ! (1 ∷ []) $ use1 𝓛 (‵ (owns (Inners κs ks) b (inner_vals κs ks a))) (hand_all 𝓛 κs ks a) $
          owned ! S.row (Is S.row) (S.makes 𝓛) h (S.val h ∷ []) is $ fjoin ! $ move ! (1 ∷ 0 ∷ []) $ join ! $ frame ! $
          use1 𝓛 (raw ((c κs.1 (h, b)).requires g')) (follows κs x a g).1 $ done !

      -- the record's borrow, closed
      abbrev bor : Fml
      bor = fbor κs.0 (Body (mem S.row) x.ref_ptr.0 x.ref_ptr.1 x.ghost_name)

      leaves : (t : P.row.Denot) (ws : Lasts callee κs.1 (h, b)) → Is R.row (P.second t) (R.val (P.second t) ∷ [])
          → ent 𝓤 (⋆ 𝓛 (‵ (obs (P.first t)) ∷ ‵ bor ∷ ‵ (flft κs.0 qs.0) ∷ tokens ∷ ‵ (last_values ws) ∷ says t ws ∷ [])) (Calling.post y (R.val (P.second t)))
      leaves t ws is =
          qed 𝓛 (‵ (obs (P.first t)) ∷ ‵ bor ∷ ‵ (flft κs.0 qs.0) ∷ tokens ∷ ‵ (last_values ws) ∷ says t ws ∷ []) ∵ updating ! $ at_once ! $
          show ! (λ (r : R.row.Denot). sep 𝓤 (Back 𝓛 caller.signature y.0 (R.val (P.second t)) r) (ensured 𝓛 caller d κs (x, a) g r)) (P.second t) $
          use1 𝓛 (‵ (fres x.ghost_name (S.row.coded.code (P.first t)))) (𝓛.names.obs-res x.ghost_name (S.row.coded.code (P.first t))) $
          owned ! R.row (Is R.row) (R.makes 𝓛) (P.second t) (R.val (P.second t) ∷ []) is $ move ! (3 ∷ 4 ∷ []) $ join ! $ join ! $ frame ! $
          show ! (λ (vs : Lasts caller κs (x, a)). sep 𝓤 (sem 𝓛 (lasts caller κs (x, a) vs)) ((d κs (x, a)).ensures g (P.second t) (at_exit caller κs (x, a) vs))) (P.first t, gots κs ks a ws.1) $
          fjoin ! $ move ! (1 ∷ []) $ use1 𝓛 (‵ (lasts_of κs (map outer ks) (all yes (map outer ks)) a (gots κs ks a ws.1))) (tell_lasts 𝓛 κs ks a ws.1) $ move ! (1 ∷ 0 ∷ []) $ fjoin ! $ frame ! $
          use1 𝓛 (raw ((d κs (x, a)).ensures g (P.second t) (at_exit caller κs (x, a) (P.first t, gots κs ks a ws.1)))) ((follows κs x a g).2 t ws) $ done !

      -- ---- the body, once the locals are allocated and the arguments stored
      module _ (l₀ l₁ : ℕ) (ps : Blocks (tys ks)) (l₂ l₃ : ℕ) (ts : Blocks (temps ks)) (l₄ : ℕ) where
        abbrev G : List (Ty × ℕ)
        G = (S.ty, l₄) ∷ []

        abbrev F : List (Ty × ℕ)
        F = (t_ty, l₂) ∷ (S.ty, l₃) ∷ env (temps ks) ts G

        abbrev E : List (Ty × ℕ)
        E = (R.ty, l₀) ∷ (ref_ty, l₁) ∷ env (tys ks) ps F

        at_t : skip t_local E ≡ F
        at_t = past ks ps F

        at_s : skip s_local E ≡ (S.ty, l₃) ∷ env (temps ks) ts G
        at_s = next t_local E at_t

        at_temps : skip (suc s_local) E ≡ env (temps ks) ts G
        at_temps = next s_local E at_s

        at_u : skip u_local E ≡ G
        at_u = past_all (temps ks) ts (suc s_local) E G at_temps

        runs_body : Seq (Go {0}) 𝓛
            (cells (tys ks) ps (words κs ks a) ∷ cells (temps ks) ts [] ∷ deaths (temps ks) ts ∷ ‵ (froom S.ty l₃ 0) ∷ ‵ (fdies S.ty l₃) ∷ ‵ (froom t_ty l₂ 0) ∷ ‵ (fdies t_ty l₂) ∷ deaths (tys ks) ps
            ∷ ‵ (fat full_share ref_ty l₁ 0 (vptr x.ref_ptr.0 x.ref_ptr.1)) ∷ ‵ (fdies ref_ty l₁) ∷ ‵ (froom R.ty l₀ 0) ∷ ‵ (fdies R.ty l₀)
            ∷ ‵ (obs h) ∷ ‵ bor ∷ ‵ (flft κs.0 qs.0) ∷ tokens ∷ ‵ others ∷ asked ∷ ‵ (froom S.ty l₄ 0) ∷ ‵ (fdies S.ty l₄) ∷ [])
            (runs C Λ E (function f).body (at_ret E (Calling.post y)))
        runs_body =
            -- the record's borrow is opened, and the record is copied. Each local has two entries, the cell and that it may be freed
            move ! (12 ∷ 13 ∷ 14 ∷ []) $ opens ! tt S.row {h = h} x.ref_ptr.0 x.ref_ptr.1 (λ vs. spelt ! S.row (Is S.row) (shows 𝓛 S.row) (λ z. S.val z ∷ []) S.tells full_share h vs x.ref_ptr.0 x.ref_ptr.1 $
            rewrite ! 0 (λ (τs : List Ty). cell τs h) S.mir_is refl $ move ! (1 ∷ []) $ peeks ! S.row (Is S.row) (shows 𝓛 S.row) h (S.val h ∷ []) (λ was. drop ! $
            assigns ! (of_opd ! (load ! (from ! (hop ! (look ! 12 refl) (stop !))) (look_raw ! 0 refl))) (at_local ! at_s (stop !)) (init ! 7 refl (fits 𝓛 S h was)) $
            -- the slices are lent again
            move ! (4 ∷ 5 ∷ []) $ relends κs E F G ! ks a are 2 (suc s_local) ps ts refl at_temps _ $
            -- the call
            move ! (16 ∷ 17 ∷ 18 ∷ []) $ use3 𝓛 (raw (Called.pre to)) (asks was) $
            calls_at ! fm Called known to (and_then ! (load ! (at_local ! at_s (stop !)) (look ! 8 refl)) (operands κs E F G ! ks a 2 (suc s_local) ps ts refl at_temps (λ τ b v back p. look_in ! 1 p) (λ τ b v back p. look_in ! 2 p))) (λ w.
            use1 𝓛 (later (some (λ (t : P.row.Denot). (tokens ⊛ ‵ (P.row.own_val t (w ∷ []))) ⊛ raw (ensured 𝓛 callee c κs.1 (h, b) g' t)))) (id⊢ 𝓤 _) $ await ! tt $ pick ! (λ t.
            split ! $ move ! (1 ∷ []) $ use1 𝓛 (some (λ (ws : Lasts callee κs.1 (h, b)). ‵ (lasts callee κs.1 (h, b) ws) ⊛ says t ws)) (id⊢ 𝓤 _) $ pick ! (λ ws.
            split ! $ fsplit ! $ drop ! $ move ! (2 ∷ []) $ split ! $ move ! (1 ∷ []) $ peeks ! P.row (Is P.row) (shows 𝓛 P.row) t (w ∷ []) (λ is. drop ! $
            -- [the tokens; the last values; what is ensured; the parameters; the slices lent again; the record's cell; the open borrow; obs; auth; the locals]
            land ! (at_local ! at_t (stop !)) (init ! 12 refl (fits_t t w is)) $ rewrite ! 12 (λ (u : Val). ‵ (fat full_share t_ty l₂ 0 u)) (ap only (P.tells t (w ∷ []) is)) refl $
            -- the new record is stored, and the answer
            assigns ! (of_opd ! (load ! (at_local ! at_t (fld ! refl (stop !))) (look_in ! 12 (sub ! 0 refl (whole !))))) (at_local ! at_u (stop !)) (init ! 19 refl (fits 𝓛 S (P.first t) (P.first_is t (w ∷ []) is))) $
            assigns ! (of_opd ! (load ! (at_local ! at_u (stop !)) (look ! 19 refl))) (from ! (hop ! (look ! 15 refl) (stop !))) (store_raw ! 5 refl (fits 𝓛 S (P.first t) (P.first_is t (w ∷ []) is))) $
            assigns ! (of_opd ! (load ! (at_local ! at_t (fld ! refl (stop !))) (look_in ! 12 (sub ! 1 refl (whole !))))) (from ! (stop !)) (init ! 17 refl (fits 𝓛 R (P.second t) (P.second_is t (w ∷ []) is))) $
            -- the borrow is closed at the new record
            owned ! S.row (Is S.row) (S.makes 𝓛) (P.first t) (S.val (P.first t) ∷ []) (P.first_is t (w ∷ []) is) $ move ! (6 ∷ 0 ∷ 7 ∷ 8 ∷ 9 ∷ []) $
            rewrite ! 0 (λ (τs : List Ty). cell τs (P.first t)) (sym S.mir_is) refl $ closes ! tt S.row (P.first t) (S.val (P.first t) ∷ []) x.ref_ptr.0 x.ref_ptr.1 $
            -- the locals are freed
            returns ! (look ! 16 refl) $ forget ! 9 refl $ forget ! 11 refl $ forget ! 14 refl $ forget ! 16 refl $ forget ! 18 refl $ move ! (6 ∷ []) $ use1 𝓛 (cells (tys ks) ps []) (forget_all 𝓛 (tys ks) ps (words κs ks a)) $
            move ! (7 ∷ []) $ use1 𝓛 (cells (temps ks) ts []) (forget_all 𝓛 (temps ks) ts (temp_words κs ks a)) $ move ! (16 ∷ 17 ∷ []) $ free1 ! $ move ! (14 ∷ 15 ∷ []) $ free1 ! $ move ! (1 ∷ 13 ∷ []) $ free_all ! (tys ks) ps F $
            move ! (10 ∷ 11 ∷ []) $ free1 ! $ move ! (8 ∷ 9 ∷ []) $ free1 ! $ move ! (0 ∷ 7 ∷ []) $ free_all ! (temps ks) ts G $ move ! (6 ∷ 7 ∷ []) $ free1 ! $ free0 ! $ by ! (leaves t ws (P.second_is t (w ∷ []) is))))))))

      walk : ent 𝓤 (sep 𝓤 (on_entry 𝓛 caller.signature κs qs (x, a) (mut_vals x, outer_vals κs ks a)) ((d κs (x, a)).requires g)) (WpFn 𝓤 H C Λ (function f) (vptr x.ref_ptr.0 x.ref_ptr.1 ∷ words κs ks a) (Calling.post y))
      walk =
          qed 𝓛 (((‵ (flft κs.0 qs.0) ⊛ tokens) ⊛ ‵ (owns (types_at caller.signature.params κs) (x, a) (mut_vals x, outer_vals κs ks a))) ∷ asked ∷ []) ∵
          split ! $ split ! $ move ! (2 ∷ []) $ fsplit ! $ fsplit3 ! $ drop ! $ move ! (0 ∷ 1 ∷ 3 ∷ 4 ∷ 2 ∷ []) $
          enter ! C Λ (function f) (vptr x.ref_ptr.0 x.ref_ptr.1 ∷ words κs ks a) _ $ alloc1 ! (λ l₀. alloc1 ! (λ l₁. alloc_all ! (tys ks) (λ ps. alloc1 ! (λ l₂. alloc1 ! (λ l₃. alloc_all ! (temps ks) (λ ts. alloc1 ! (λ l₄.
          alloc0 ! $ move ! (2 ∷ 3 ∷ 4 ∷ 5 ∷ 6 ∷ 7 ∷ 8 ∷ 9 ∷ 10 ∷ 11 ∷ 12 ∷ 13 ∷ 14 ∷ 15 ∷ 16 ∷ 17 ∷ 18 ∷ 19 ∷ []) $ params1 ! $ pass1 ! (init ! 8 refl (tt, tt)) $ move ! (6 ∷ []) $ pass_all ! (tys ks) ps (words κs ks a) (F l₀ l₁ ps l₂ l₃ ts l₄) (fit_all 𝓛 κs ks a are) $ runs_body l₀ l₁ ps l₂ l₃ ts l₄)))))))

    -- the same at any machine values: what the parameters own says which they are
    meets : Meets 𝓛 caller.signature (WpFn 𝓤 H C Λ (function f)) (closing 𝓛 caller d)
    meets z =
        let κs : Lfts (suc n) = z.0.0 in
        let needs : SProp 𝓤 = (d κs z.0.3).requires z.1 in
        let ends : Vals caller.signature κs → SProp 𝓤 = λ us. WpFn 𝓤 H C Λ (function f) (flat (types_at caller.signature.params κs) us) (Calling.post z) in
        via 𝓤 (sep 𝓤 needs (wand 𝓤 needs (ends z.0.4)))
        (via 𝓤 (sep 𝓤 (wand 𝓤 needs (ends z.0.4)) needs)
        (mono_l 𝓤 needs (said 𝓛 caller.signature κs z.0.1 (mut_vals, spells κs ks) (mut_Tells (named 0) κs.0 S.row, tell_all κs ks) z.0.3 (λ us. wand 𝓤 needs (ends us)) z.0.4
        (λ are. wand_i 𝓤 _ needs _ (walk κs z.0.1 z.0.3.0 z.0.3.1 z.1 are.1))))
        (comm∗ 𝓤 (wand 𝓤 needs (ends z.0.4)) needs))
        (apply∗ 𝓤 needs (ends z.0.4))

  pub by_reference : {M : Type 1} {𝓤 : Ura M} (𝓛 : Logic 𝓤) (𝓜 : Model 𝓤 𝓛.H) (𝓡 : Running 𝓤 𝓛.H 𝓜) (c : Clauses 𝓤 callee) (d : Clauses 𝓤 caller) → Implies 𝓤 c d → (γ : Routines) (self other : Callee)
      → Closed 𝓤 𝓛.H (tables 𝓤 𝓛.H 𝓜 𝓡 γ).C (tables 𝓤 𝓛.H 𝓜 𝓡 γ).Λ self (function other) → (r : Routine) → γ other ≡ r → Meets 𝓛 callee.signature (𝓡.run r) (closing 𝓛 callee c)
      → Meets 𝓛 caller.signature (𝓡.run (γ self)) (closing 𝓛 caller d)
  unfolding tables_of
  by_reference {𝓤 = 𝓤} 𝓛 𝓜 𝓡 c d follows γ self other closed r e met =
      entered 𝓤 𝓛.H (triple_of 𝓛 caller.signature (closing 𝓛 caller d)) (tables 𝓤 𝓛.H 𝓜 𝓡 γ).C (tables 𝓤 𝓛.H 𝓜 𝓡 γ).Λ self (function other) closed
      (meets 𝓛 c d follows (tables 𝓤 𝓛.H 𝓜 𝓡 γ).C (tables 𝓤 𝓛.H 𝓜 𝓡 γ).Λ (fm_of 𝓤 𝓛.H 𝓛.laws (tables_of 𝓤 𝓛.H 𝓜 (tables 𝓤 𝓛.H 𝓜 𝓡 γ))) other
      (cited 𝓤 𝓛.H (triple_of 𝓛 callee.signature (closing 𝓛 callee c)) 𝓜 𝓡 γ other r e met))
