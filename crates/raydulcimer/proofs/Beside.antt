-- The parameters that stand beside the record in a call by reference (`ByReference.antt`): how the function takes each and how it hands it to the callee, over a list of any length.
--     Plain            a type of one machine value that owns only facts.        struct, number      a declared struct, an unsigned integer
--     Parameter n           shared j, lent j, copied X:  a `&'j [u8]`, a `&'j mut [u8]`, and plain data. 'j is one of the callee's n lifetimes. The function has one more, the record's, which comes first, so there it is 'j + 1
--     inner, outer     the parameter in the callee's signature, and in the function's.        Inners, Outers      their types
--     given, got       a value as the callee takes it, and a last value as the function says it. Both are the identity on each kind
--     ty_of, temps      the MIR types of a parameter's local, and of the two locals in which a `&mut [u8]` is lent again.        word, temp_words      the machine values in them
--     relend, opds     the statements that lend again, and the call's operands, where the first parameter is the local i and the first local to lend again in is j
--     relends, operands        what they do
--     hand_all, tell_lasts     what the parameters own is what the callee asks, and what it says of their last values is what the function says
-- Assumes `Logic`.
use mathlib.Core.Path.{◌≡◌, refl, subst}
use Prim.Native.Nat.{ℕ, zero, suc}
use mathlib.Core.List.{List, [], ◌∷◌, map}
use lib.Dec.{T}
use lib.ListN.{length, drop as skip}
use seplogic.Ra.Ura.{Ura}
use base.Fraction.{full_share}
use mir.Syntax.{Width, w8, Ty, ty_int, ty_ref, named, erased, imm, mut, deref, field, place, Opd, copy, addr_of, aggregate, Body, seq, assign}
use mir.Val.{Val, vptr, vint, WT, has_ty}
use base.Logic.{ent, id⊢, mono∗}
use prog.Wp.{Env, Calls, Loops}
use types.Logic.{Logic, sem}
use contract.Lifetimes.{Lfts, Within}
use types.Kit.{Item, Post, runs, Step, step, ◌$◌, move, split, split3, join}
use types.Run.{Reads, Opds, look, init, stop, hop, fld, load, addr, and_then, no_more, assigns}
use types.Part.{Part, agg, whole, sub, look_in}
use denote.Exit.{Last, left, yes}
use denote.RattleType.{RattleType, Denots, Valss, flat, owns}
use denote.Laws.{Typed, Is, Ises, Are, Tells, Tellss, Spells, valss, Makes, Lawful}
use denote.Shadow.{makes_shadow}
use denote.Plain.{UInt, uint_Tells, uint_Lawful}
use denote.Builtin.{u8}
use denote.Slice.{slice_ty, slice_val}
use denote.Signature.{Slot, plain, mut_slice_of, shr_slice_of, types_at}
use denote.Struct.Declared.{Declared, row, shape}
use denote.Struct.Declared as declared
use denote.Struct.Laws as laws
use denote.Struct.Struct.{layout}
use denote.Triple.End.{Fins, all, lasts_of}
use Rattle.raydulcimer.proofs.Locals.{Blocks, env, cells, in_left, in_right, at_local, next}

-- ---- plain data
pub record Plain : Type 2 where
  pub row : RattleType
  pub ty : Ty
  pub mir_is : row.mir ≡ ty ∷ []
  pub val : row.Denot → Val
  pub tells : Tells row (Is row) (λ x. val x ∷ [])
  pub lawful : {M : Type 1} {𝓤 : Ura M} (𝓛 : Logic 𝓤) → Lawful 𝓛 row
  pub makes : {M : Type 1} {𝓤 : Ura M} (𝓛 : Logic 𝓤) → Makes 𝓛 row (Is row)

abbrev pub struct : (T : Declared) → laws.FLaws (declared.field T) → laws.Plain (declared.field T) → Plain
struct T l p = record {
  row = row T;
  ty = layout (shape T);
  mir_is = refl;
  val = λ x. l.val (T.to x);
  tells = λ x. l.tells (T.to x);
  lawful = λ 𝓛. record { typed = λ x. (l.lawful 𝓛).typed (T.to x) };
  makes = λ 𝓛 x vs is. makes_shadow 𝓛 ((row T).own_val x vs) (p (T.to x) vs) is;
}

abbrev pub number : Width → Plain
number w = record {
  row = UInt w;
  ty = ty_int w;
  mir_is = refl;
  val = vint w;
  tells = uint_Tells w;
  lawful = λ 𝓛. uint_Lawful 𝓛 w;
  makes = λ 𝓛 x vs is. makes_shadow 𝓛 ((UInt w).own_val x vs) (tt, tt) is;
}

-- its machine value is of its MIR type
pub fits : {M : Type 1} {𝓤 : Ura M} (𝓛 : Logic 𝓤) → (X : Plain) (x : X.row.Denot) → Is X.row x (X.val x ∷ []) → T (has_ty X.ty (X.val x)) × WT (X.val x)
fits 𝓛 X x is = (subst (λ (τs : List Ty). Typed τs (X.val x ∷ [])) X.mir_is ((X.lawful 𝓛).typed x (X.val x ∷ []) is)).0

-- ---- a parameter, and a list of them
pub data Parameter (n : ℕ) : Type 2 where
  shared : (j : ℕ) → Within n j → Parameter n
  lent : (j : ℕ) → Within n j → Parameter n
  copied : Plain → Parameter n

module _ {n : ℕ} where
  abbrev pub inner : Parameter n → Slot n
  inner (shared j ok) = shr_slice_of (j ∷ []) ok (plain (λ _. u8))
  inner (lent j ok) = mut_slice_of (j ∷ []) ok (plain (λ _. u8))
  inner (copied X) = plain (λ _. X.row)

  abbrev pub outer : Parameter n → Slot (suc n)
  outer (shared j ok) = shr_slice_of (suc j ∷ []) ok (plain (λ _. u8))
  outer (lent j ok) = mut_slice_of (suc j ∷ []) ok (plain (λ _. u8))
  outer (copied X) = plain (λ _. X.row)

  abbrev pub ty_of : Parameter n → Ty
  ty_of (shared j ok) = slice_ty (ty_ref (named (suc j)) imm (ty_int w8))
  ty_of (lent j ok) = slice_ty (ty_ref (named (suc j)) mut (ty_int w8))
  ty_of (copied X) = X.ty

  abbrev pub tys : List (Parameter n) → List Ty
  tys ks = map ty_of ks

  abbrev pub temps : List (Parameter n) → List Ty
  temps [] = []
  temps (shared j ok ∷ ks) = temps ks
  temps (lent j ok ∷ ks) = ty_ref erased mut (ty_int w8) ∷ slice_ty (ty_ref erased mut (ty_int w8)) ∷ temps ks
  temps (copied X ∷ ks) = temps ks

  abbrev pub relend : ℕ → ℕ → List (Parameter n) → Body → Body
  relend i j [] rest = rest
  relend i j (shared k ok ∷ ks) rest = relend (suc i) j ks rest
  relend i j (lent k ok ∷ ks) rest =
      seq (assign (place j []) (addr_of (place i (field 0 ∷ deref (ty_int w8) ∷ [])))) (seq (assign (place (suc j) []) (aggregate (copy (place j []) ∷ copy (place i (field 1 ∷ [])) ∷ []))) (relend (suc i) (suc (suc j)) ks rest))
  relend i j (copied X ∷ ks) rest = relend (suc i) j ks rest

  abbrev pub opds : ℕ → ℕ → List (Parameter n) → List Opd
  opds i j [] = []
  opds i j (shared k ok ∷ ks) = copy (place i []) ∷ opds (suc i) j ks
  opds i j (lent k ok ∷ ks) = copy (place (suc j) []) ∷ opds (suc i) (suc (suc j)) ks
  opds i j (copied X ∷ ks) = copy (place i []) ∷ opds (suc i) j ks

  -- what stands past the parameters' locals
  pub past : (ks : List (Parameter n)) (ps : Blocks (tys ks)) (E : List (Ty × ℕ)) → skip (length ks) (env (tys ks) ps E) ≡ E
  past [] ps E = refl
  past (k ∷ ks) ps E = past ks ps.1 E

  module _ (κs : Lfts (suc n)) where
    abbrev pub Outers : List (Parameter n) → List RattleType
    Outers ks = types_at (map outer ks) κs

    abbrev pub Inners : List (Parameter n) → List RattleType
    Inners ks = types_at (map inner ks) κs.1

    abbrev given : (k : Parameter n) → ((outer k).row κs).Denot → ((inner k).row κs.1).Denot
    given (shared j ok) x = x
    given (lent j ok) x = x
    given (copied X) x = x

    abbrev pub givens : (ks : List (Parameter n)) → Denots (Outers ks) → Denots (Inners ks)
    givens [] a = tt
    givens (k ∷ ks) a = (given k a.0, givens ks a.1)

    abbrev got : (k : Parameter n) (x : ((outer k).row κs).Denot) → Last (((inner k).row κs.1).exit yes) (given k x) → Last (((outer k).row κs).exit yes) x
    got (shared j ok) x w = w
    got (lent j ok) x w = w
    got (copied X) x w = w

    abbrev pub gots : (ks : List (Parameter n)) (a : Denots (Outers ks)) → Fins κs.1 (map inner ks) (all yes (map inner ks)) (givens ks a) → Fins κs (map outer ks) (all yes (map outer ks)) a
    gots [] a ws = tt
    gots (k ∷ ks) a ws = (got k a.0 ws.0, gots ks a.1 ws.1)

    -- ---- the machine values
    abbrev word : (k : Parameter n) → ((outer k).row κs).Denot → Val
    word (shared j ok) x = slice_val x.ref_ptr (length x.now)
    word (lent j ok) x = slice_val x.ref_ptr (length x.now)
    word (copied X) x = X.val x

    abbrev pub temp_words : (ks : List (Parameter n)) → Denots (Outers ks) → List Val
    temp_words [] a = []
    temp_words (shared j ok ∷ ks) a = temp_words ks a.1
    temp_words (lent j ok ∷ ks) a = vptr a.0.ref_ptr.0 a.0.ref_ptr.1 ∷ slice_val a.0.ref_ptr (length a.0.now) ∷ temp_words ks a.1
    temp_words (copied X ∷ ks) a = temp_words ks a.1

    abbrev pub spells : (ks : List (Parameter n)) → Spells (Outers ks)
    spells [] = tt
    spells (k ∷ ks) = ((λ x. word k x ∷ []), spells ks)

    abbrev pub outer_vals : (ks : List (Parameter n)) → Denots (Outers ks) → Valss (Outers ks)
    outer_vals ks a = valss (Outers ks) (spells ks) a

    abbrev pub inner_vals : (ks : List (Parameter n)) → Denots (Outers ks) → Valss (Inners ks)
    inner_vals [] a = tt
    inner_vals (k ∷ ks) a = (word k a.0 ∷ [], inner_vals ks a.1)

    abbrev pub words : (ks : List (Parameter n)) → Denots (Outers ks) → List Val
    words ks a = flat (Outers ks) (outer_vals ks a)

    tell : (k : Parameter n) → Tells ((outer k).row κs) (Is ((outer k).row κs)) (λ x. word k x ∷ [])
    tell (shared j ok) = λ x vs is. is.0.0
    tell (lent j ok) = λ x vs is. is.0.0
    tell (copied X) = X.tells

    pub tell_all : (ks : List (Parameter n)) → Tellss (Outers ks) (Ises (Outers ks)) (spells ks)
    tell_all [] = tt
    tell_all (k ∷ ks) = (tell k, tell_all ks)

    -- each value is related to its machine value
    abbrev pub AreAll : (ks : List (Parameter n)) → Denots (Outers ks) → Type 0
    AreAll ks a = Are (Outers ks) (Ises (Outers ks)) a (outer_vals ks a)

module _ {M : Type 1} {𝓤 : Ura M} (𝓛 : Logic 𝓤) {n : ℕ} (κs : Lfts (suc n)) where
  fit : (k : Parameter n) (x : ((outer k).row κs).Denot) → Is ((outer k).row κs) x (word κs k x ∷ []) → T (has_ty (ty_of k) (word κs k x)) × WT (word κs k x)
  fit (shared j ok) x is = (tt, (tt, (record { fits = is.0.1.0 }, tt)))
  fit (lent j ok) x is = (tt, (tt, (record { fits = is.0.1.0 }, tt)))
  fit (copied X) x is = fits 𝓛 X x is

  pub fit_all : (ks : List (Parameter n)) (a : Denots (Outers κs ks)) → AreAll κs ks a → Typed (tys ks) (words κs ks a)
  fit_all [] a are = tt
  fit_all (k ∷ ks) a are = (fit k a.0 are.0, fit_all ks a.1 are.1)

  hand : (k : Parameter n) (x : ((outer k).row κs).Denot) → ent 𝓤 (sem 𝓛 (((outer k).row κs).own_val x (word κs k x ∷ []))) (sem 𝓛 (((inner k).row κs.1).own_val (given κs k x) (word κs k x ∷ [])))
  hand (shared j ok) x = id⊢ 𝓤 _
  hand (lent j ok) x = id⊢ 𝓤 _
  hand (copied X) x = id⊢ 𝓤 _

  pub hand_all : (ks : List (Parameter n)) (a : Denots (Outers κs ks)) → ent 𝓤 (sem 𝓛 (owns (Outers κs ks) a (outer_vals κs ks a))) (sem 𝓛 (owns (Inners κs ks) (givens κs ks a) (inner_vals κs ks a)))
  hand_all [] a = id⊢ 𝓤 _
  hand_all (k ∷ ks) a = mono∗ 𝓤 (hand k a.0) (hand_all ks a.1)

  tell_last : (k : Parameter n) (x : ((outer k).row κs).Denot) (w : Last (((inner k).row κs.1).exit yes) (given κs k x))
      → ent 𝓤 (sem 𝓛 (left (((inner k).row κs.1).exit yes) (given κs k x) w)) (sem 𝓛 (left (((outer k).row κs).exit yes) x (got κs k x w)))
  tell_last (shared j ok) x w = id⊢ 𝓤 _
  tell_last (lent j ok) x w = id⊢ 𝓤 _
  tell_last (copied X) x w = id⊢ 𝓤 _

  pub tell_lasts : (ks : List (Parameter n)) (a : Denots (Outers κs ks)) (ws : Fins κs.1 (map inner ks) (all yes (map inner ks)) (givens κs ks a))
      → ent 𝓤 (sem 𝓛 (lasts_of κs.1 (map inner ks) (all yes (map inner ks)) (givens κs ks a) ws)) (sem 𝓛 (lasts_of κs (map outer ks) (all yes (map outer ks)) a (gots κs ks a ws)))
  tell_lasts [] a ws = id⊢ 𝓤 _
  tell_lasts (k ∷ ks) a ws = mono∗ 𝓤 (tell_last k a.0 ws.0) (tell_lasts ks a.1 ws.1)

-- ---- the code
-- each cell of an entry can be read
abbrev Sees : {M : Type 1} {𝓤 : Ura M} (K : Type 0) (𝓛 : Logic 𝓤) → List (Item 𝓤) → Item 𝓤 → Type 2
Sees {𝓤 = 𝓤} K 𝓛 Γ i = (τ : Ty) (b : ℕ) (v : Val) (back : Val → Item 𝓤) → Part K 𝓛 i full_share τ b zero v back → Reads K 𝓛 Γ τ b zero v

module _ {M : Type 1} {𝓤 : Ura M} {𝓛 : Logic 𝓤} {K : Type 0} {n : ℕ} (κs : Lfts (suc n)) (E : Env 𝓤 𝓛.H) (F G : List (Ty × ℕ)) where
  open 𝓛 use {H}

  pub relends : K → (ks : List (Parameter n)) (a : Denots (Outers κs ks)) → AreAll κs ks a → (i j : ℕ) (ps : Blocks (tys ks)) (ts : Blocks (temps ks)) → skip i E ≡ env (tys ks) ps F → skip j E ≡ env (temps ks) ts G
      → (rest : Body) {C : Calls 𝓤 H} {Λ : Loops 𝓤 H} {q : Post 𝓤 H} {Γ : List (Item 𝓤)}
      → Step K 𝓛 (cells (tys ks) ps (words κs ks a) ∷ cells (temps ks) ts (temp_words κs ks a) ∷ Γ) (runs C Λ E rest q) (cells (tys ks) ps (words κs ks a) ∷ cells (temps ks) ts [] ∷ Γ) (runs C Λ E (relend i j ks rest) q)
  relends t [] a are i j ps ts at_i at_j rest = step (λ s. s)
  relends t (shared k ok ∷ ks) a are i j ps ts at_i at_j rest =
      step (λ s. split t $ move t (1 ∷ 2 ∷ []) $ relends t ks a.1 are.1 (suc i) j ps.1 ts (next i E at_i) at_j rest $ move t (2 ∷ 0 ∷ []) $ join t $ s)
  relends t (lent k ok ∷ ks) a are i j ps ts at_i at_j rest =
      step (λ s. split t $ move t (2 ∷ []) $ split3 t $
      -- [room for the pointer; room for the slice; room for the others; the parameter; the others]
      assigns t (addr t (at_local t at_i (fld t refl (hop t (look_in t 3 (sub t 0 refl (whole t))) (stop t))))) (at_local t at_j (stop t)) (init t 0 refl (tt, tt)) $
      assigns t (agg t (and_then t (load t (at_local t at_j (stop t)) (look t 0 refl)) (and_then t (load t (at_local t at_i (fld t refl (stop t))) (look_in t 3 (sub t 1 refl (whole t)))) (no_more t))))
      (at_local t (next j E at_j) (stop t)) (init t 1 refl (tt, (tt, (record { fits = are.0.0.1.0 }, tt)))) $
      move t (4 ∷ 2 ∷ []) $ relends t ks a.1 are.1 (suc i) (suc (suc j)) ps.1 ts.1.1 (next i E at_i) (next (suc j) E (next j E at_j)) rest $
      -- [the other parameters; their locals; the pointer; the slice; the parameter]
      move t (3 ∷ 1 ∷ []) $ join t $ move t (2 ∷ 0 ∷ []) $ join t $ move t (2 ∷ 1 ∷ []) $ join t $ s)
  relends t (copied X ∷ ks) a are i j ps ts at_i at_j rest =
      step (λ s. split t $ move t (1 ∷ 2 ∷ []) $ relends t ks a.1 are.1 (suc i) j ps.1 ts (next i E at_i) at_j rest $ move t (2 ∷ 0 ∷ []) $ join t $ s)

  pub operands : K → {Γ : List (Item 𝓤)} (ks : List (Parameter n)) (a : Denots (Outers κs ks)) (i j : ℕ) (ps : Blocks (tys ks)) (ts : Blocks (temps ks)) → skip i E ≡ env (tys ks) ps F → skip j E ≡ env (temps ks) ts G
      → Sees K 𝓛 Γ (cells (tys ks) ps (words κs ks a)) → Sees K 𝓛 Γ (cells (temps ks) ts (temp_words κs ks a)) → Opds K 𝓛 Γ E (opds i j ks) (flat (Inners κs ks) (inner_vals κs ks a))
  operands t [] a i j ps ts at_i at_j see-p see-t = no_more t
  operands t (shared k ok ∷ ks) a i j ps ts at_i at_j see-p see-t =
      and_then t (load t (at_local t at_i (stop t)) (see-p _ _ _ _ (in_left t (whole t)))) (operands t ks a.1 (suc i) j ps.1 ts (next i E at_i) at_j (λ τ b v back p. see-p τ b v _ (in_right t p)) see-t)
  operands t (lent k ok ∷ ks) a i j ps ts at_i at_j see-p see-t =
      and_then t (load t (at_local t (next j E at_j) (stop t)) (see-t _ _ _ _ (in_right t (in_left t (whole t)))))
      (operands t ks a.1 (suc i) (suc (suc j)) ps.1 ts.1.1 (next i E at_i) (next (suc j) E (next j E at_j)) (λ τ b v back p. see-p τ b v _ (in_right t p)) (λ τ b v back p. see-t τ b v _ (in_right t (in_right t p))))
  operands t (copied X ∷ ks) a i j ps ts at_i at_j see-p see-t =
      and_then t (load t (at_local t at_i (stop t)) (see-p _ _ _ _ (in_left t (whole t)))) (operands t ks a.1 (suc i) j ps.1 ts (next i E at_i) at_j (λ τ b v back p. see-p τ b v _ (in_right t p)) see-t)
