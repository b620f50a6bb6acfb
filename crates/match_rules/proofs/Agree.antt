-- The tests on values are the matcher's tests, where the values are those of terms and constants.
use mathlib.Core.Path.{◌≡◌, refl, sym, ◌∙◌, ap, ap₂, subst}
use mathlib.Core.Logic.{◌≢◌, ite}
use mathlib.Core.Bool.{Bool, true, false, cond, false≢true}
use mathlib.Core.Option.{Option, none, some}
use Rattle.std.specs.Prelude.{Some, None, Result, Ok, Err, ok_or}
use mathlib.Core.List.{List, [], ◌∷◌, map, map-map}
use Prim.Native.Nat.{ℕ, ◌+◌, ◌-◌, ◌<◌, ◌≤◌}
use native.Mathlib.Omega.{arith}
use native.Mathlib.Decide.{ℕ_discrete}
use lib.ListN.{length, get_or, set, take, drop, length-set, length-map, get_or-replicate}
use lib.Seq.{get_or-set_same, get_or-set_other}
use Rattle.base_limits.specs.Limits.{most_terms, largest_number, most_items, atom_places}
use Rattle.base_lists.specs.Seqs.{All, both?}
use Rattle.base_lists.specs.Arrays.{mapped_at}
use Rattle.math_types.specs.Order.{basic, list, full-eq}
use Rattle.math_types.specs.Types.{Basic, atom, basic_eq, Kind, rank, rank_basic, rank_once, le, basics}
use Rattle.math_types.specs.Values.{kind_of, kind_from, kind_of_from}
use Rattle.math_terms.specs.Terms.{con, var}
use Rattle.math_terms.specs.Fillings.{Filling}
use Rattle.math_terms.specs.Matcher.{and_then, atoms, width, blank, bind, same, meets, test, walk, match_field, match_fields, has_room}
use Rattle.math_terms.specs.Linear.{OneList}
use Rattle.math_terms.proofs.Slices.{span, room_span}
use Rattle.math_terms.proofs.Seqs.{item_at_lem}
use Rattle.text_grammar.specs.Terms.{OurTerm, OurFields, SlipFields}
use Rattle.text_grammar.specs.constants.Constants.{Con, con_eq, con_kind, some_of, consts}
use Rattle.text_grammar.specs.Limits.{TermIn}
use Rattle.text_values.specs.Values.{SlipField}
use Rattle.text_values.specs.constants.Constants.{encode_constant}
use Rattle.text_values.specs.Values.{blank_term, encode_term, encode_field, encode_slip_field}
use Rattle.text_values.specs.declared.Term.{Term as TermValue}
use Rattle.text_values.proofs.Pads.{unpadded}
use Rattle.text_values.proofs.constants.Constants.{view_encode_constant, same_constant_is, constant_kind_lem}
use Rattle.match_fields.specs.declared.bindings.Values.{Values}
use Rattle.match_fields.specs.bindings.Values.{slot}
use Rattle.match_fields.specs.items.Tests.{same_term, item_kind, bound, met, test_var}
use Rattle.match_fields.specs.Fields.{width_of, term_tested, go_on, walked, shape_of, field_tested, terms_of, items_of}
use Rattle.match_fields.proofs.Shapes.{fits_room, gap_is}
use Rattle.match_rules.specs.Tests.{no_values, fields_tested}

-- the value of a constant
abbrev pub enc : Con → TermValue
enc c = encode_term (con c)

-- ---- the values hold the filling so far

abbrev pub Held : List Con → Bool → TermValue → Type 0
Held [] b t = (b ≡ false) × (t ≡ blank_term)
Held (c ∷ l) b t = (b ≡ true) × (t ≡ enc c)

pub record Holds (v : Values) (φ : Filling Con Kind ℕ) : Type 0 where
  pub known_long : length v.known ≡ atom_places
  pub terms_long : length v.terms ≡ atom_places
  pub held : (k : Basic) (n : ℕ) → n ≤ largest_number
      → Held (φ (basic k) n) (get_or v.known (slot (basic k) n) false) (get_or v.terms (slot (basic k) n) blank_term)

abbrev pub Agrees : Result Values Values → Option (Filling Con Kind ℕ) → Type 0
Agrees (Err v) none = Unit {0}
Agrees (Err v) (some ψ) = ⊥
Agrees (Ok v) none = ⊥
Agrees (Ok v) (some ψ) = Holds v ψ

slot_small : (k : Basic) (n : ℕ) → n ≤ largest_number → slot (basic k) n < atom_places
slot_small k n h = omega (arith, rank_basic k)

pub holds_none : Holds no_values blank
holds_none = record {
  known_long = refl;
  terms_long = refl;
  held = λ k n h. (
    get_or-replicate atom_places (slot (basic k) n) false false (slot_small k n h),
    get_or-replicate atom_places (slot (basic k) n) blank_term blank_term (slot_small k n h),
  );
}

kind_eq : Discrete Kind
kind_eq = full-eq basic_eq

holds_list : (v : Values) (φ : Filling Con Kind ℕ) (a : ℕ) (w : List Con) → Holds v φ → Holds v (bind (full-eq basic_eq) ℕ_discrete list a w φ)
holds_list v φ a w h = record { known_long = h.known_long; terms_long = h.terms_long; held = λ k n l. h.held k n l }

module _ (v : Values) (φ : Filling Con Kind ℕ) (k : Basic) (n : ℕ) (c : Con) (h : Holds v φ) (l : n ≤ largest_number) where
  abbrev i : ℕ
  i = slot (basic k) n

  holds_bind : Holds (bound v i (enc c)) (bind (full-eq basic_eq) ℕ_discrete (basic k) n (c ∷ []) φ)
  holds_bind = record {
    known_long = length-set v.known i true ∙ h.known_long;
    terms_long = length-set v.terms i (enc c) ∙ h.terms_long;
    held = λ j m q. here j m q (full-eq basic_eq (basic j) (basic k)) (ℕ_discrete m n);
  }
    where
      other : (j : Basic) (m : ℕ) → m ≤ largest_number → slot (basic j) m ≢ i
          → Held (φ (basic j) m) (get_or (set v.known i true) (slot (basic j) m) false) (get_or (set v.terms i (enc c)) (slot (basic j) m) blank_term)
      other j m q ne =
          subst (λ (t : TermValue). Held (φ (basic j) m) (get_or (set v.known i true) (slot (basic j) m) false) t)
          (sym (get_or-set_other v.terms i (slot (basic j) m) (enc c) blank_term ne))
          (subst (λ (b : Bool). Held (φ (basic j) m) b (get_or v.terms (slot (basic j) m) blank_term))
          (sym (get_or-set_other v.known i (slot (basic j) m) true false ne)) (h.held j m q))

      apart : (j : Basic) (m : ℕ) → m ≤ largest_number → slot (basic j) m ≡ i → (rank (basic j) ≡ rank (basic k)) × (m ≡ n)
      apart j m q e = (omega arith, omega arith)

      here : (j : Basic) (m : ℕ) → m ≤ largest_number → (d : Dec (basic j ≡ basic k)) (e : Dec (m ≡ n))
          → Held (ite (both? d e) (c ∷ []) (φ (basic j) m)) (get_or (set v.known i true) (slot (basic j) m) false)
          (get_or (set v.terms i (enc c)) (slot (basic j) m) blank_term)
      here j m q (yes x) (yes y) =
          let s : slot (basic j) m ≡ i = ap₂ slot x y in
          let small = slot_small k n l in (
            ap (λ (p : ℕ). get_or (set v.known i true) p false) s ∙ get_or-set_same v.known i true false (omega (arith, h.known_long)),
            ap (λ (p : ℕ). get_or (set v.terms i (enc c)) p blank_term) s ∙ get_or-set_same v.terms i (enc c) blank_term (omega (arith, h.terms_long)),
          )
      here j m q (yes x) (no y) = other j m q (λ e. y (apart j m q e).1)
      here j m q (no x) e = other j m q (λ e. x (rank_once (basic j) (basic k) (apart j m q e).0))

-- ---- one test

same_agrees : (v : Values) (φ : Filling Con Kind ℕ) (d c : Con) (q : Dec (c ≡ d)) (b : Bool)
    → b ≡ same_term (enc d) (enc c) → Holds v φ → Agrees (ok_or (cond b (Some v) None) v) (ite q (some φ) none)
same_agrees v φ d c (yes e) true s h = h
same_agrees v φ d c (yes e) false s h = absurd (false≢true (s ∙ (same_constant_is d c).1 (sym e)))
same_agrees v φ d c (no n) true s h = absurd (n (sym ((same_constant_is d c).0 (sym s))))
same_agrees v φ d c (no n) false s h = tt

item_kind_lem : (c : Con) → item_kind (enc c).form ≡ basic (con_kind c)
item_kind_lem c = constant_kind_lem (encode_constant c).0 (encode_constant c).1 ∙ ap (λ (d : Con). basic (con_kind d)) (view_encode_constant c)

meets_agrees : (v : Values) (φ : Filling Con Kind ℕ) (k : Basic) (n : ℕ) (c : Con) → Holds v φ → n ≤ largest_number
    → Agrees (ok_or (met (get_or v.known (slot (basic k) n) false) (basic k) (slot (basic k) n) (enc c) v) v)
    (meets basics consts ℕ_discrete k n (φ (basic k) n) c φ)
meets_agrees v φ k n c h l = go (φ (basic k) n) (h.held k n l)
  where
    i : ℕ
    i = slot (basic k) n

    go : (old : List Con) → Held old (get_or v.known i false) (get_or v.terms i blank_term)
        → Agrees (ok_or (met (get_or v.known i false) (basic k) i (enc c) v) v) (meets basics consts ℕ_discrete k n old c φ)
    go [] e =
        subst (λ (b : Bool). Agrees (ok_or (met b (basic k) i (enc c) v) v) (meets basics consts ℕ_discrete k n [] c φ)) (sym e.0)
        (subst (λ (q : Kind). Agrees (ok_or (cond (le q (basic k)) (Some (bound v i (enc c))) None) v)
        (meets basics consts ℕ_discrete k n [] c φ)) (sym (item_kind_lem c)) (new (le (basic (con_kind c)) (basic k))))
      where
        new : (b : Bool)
            → Agrees (ok_or (cond b (Some (bound v i (enc c))) None) v)
            (cond b (some (bind (full-eq basic_eq) ℕ_discrete (basic k) n (c ∷ []) φ)) none)
        new true = holds_bind v φ k n c h l
        new false = tt
    go (d ∷ old) e =
        subst (λ (b : Bool). Agrees (ok_or (met b (basic k) i (enc c) v) v) (meets basics consts ℕ_discrete k n (d ∷ old) c φ)) (sym e.0)
        (same_agrees v φ d c (con_eq c d) (same_term (get_or v.terms i blank_term) (enc c)) (ap (λ (t : TermValue). same_term t (enc c)) e.1) h)

-- ---- the terms of a field

go_on_lem : (r : Result Values Values) (o : Option (Filling Con Kind ℕ)) (k : Values → Result Values Values)
    (g : Filling Con Kind ℕ → Option (Filling Con Kind ℕ)) → Agrees r o
    → ((v : Values) (ψ : Filling Con Kind ℕ) → Holds v ψ → Agrees (k v) (g ψ)) → Agrees (go_on r k) (and_then o g)
go_on_lem (Err v) none k g a f = tt
go_on_lem (Err v) (some ψ) k g a f = absurd a
go_on_lem (Ok v) none k g a f = absurd a
go_on_lem (Ok v) (some ψ) k g a f = f v ψ a

pub width_enc : (gap : ℕ) (u : OurTerm) → width_of gap (encode_term u) ≡ width gap u
width_enc gap (con c) = refl
width_enc gap (var (basic k) n) = rw (kind_of_from (basic k))
width_enc gap (var list n) = refl

-- what no item past the last is read as
abbrev no_item : Con
no_item = some_of atom

-- a term at item p of w, where the item is there if the term is an atom
pub test_agrees : (gap : ℕ) (w : List Con) (p : ℕ) (u : OurTerm) (v : Values) (φ : Filling Con Kind ℕ) → TermIn u → Holds v φ → p + width gap u ≤ length w
    → Agrees (term_tested (encode_term u) (get_or (map enc w) p blank_term) v) (test basics consts ℕ_discrete gap w p u φ)
test_agrees gap w p (con d) v φ i h l =
    let e = mapped_at enc w p no_item blank_term (omega arith) in
    let q = item_at_lem w p no_item (omega arith) in
    subst (λ (o : Option Con). Agrees (ok_or (cond (same_term (enc d) (get_or (map enc w) p blank_term)) (Some v) None) v)
    (and_then o (λ c. same basics consts ℕ_discrete d c φ))) (sym q)
    (same_agrees v φ d (get_or w p no_item) (con_eq (get_or w p no_item) d) _ (ap (same_term (enc d)) e) h)
test_agrees gap w p (var (basic k) n) v φ i h l =
    let e = mapped_at enc w p no_item blank_term (omega arith) in
    let q = item_at_lem w p no_item (omega arith) in
    subst (λ (o : Option Con). Agrees (ok_or (test_var (kind_of (kind_from (basic k))) n (get_or (map enc w) p blank_term) v) v)
    (and_then o (λ c. meets basics consts ℕ_discrete k n (φ (basic k) n) c φ))) (sym q)
    (subst (λ (j : Kind). Agrees (ok_or (test_var j n (get_or (map enc w) p blank_term) v) v)
    (meets basics consts ℕ_discrete k n (φ (basic k) n) (get_or w p no_item) φ))
    (sym (kind_of_from (basic k)))
    (subst (λ (t : TermValue). Agrees (ok_or (test_var (basic k) n t v) v) (meets basics consts ℕ_discrete k n (φ (basic k) n) (get_or w p no_item) φ)) (sym e)
    (meets_agrees v φ k n (get_or w p no_item) h i)))
test_agrees gap w p (var list n) v φ i h l = holds_list v φ n (take gap (drop p w)) h

walk_agrees : (gap : ℕ) (w : List Con) (f : List OurTerm) (p : ℕ) (v : Values) (φ : Filling Con Kind ℕ) → All TermIn f → Holds v φ → p + span gap f ≤ length w
    → Agrees (walked gap (map enc w) (map encode_term f) p v) (walk basics consts ℕ_discrete gap w f p φ)
walk_agrees gap w [] p v φ i h l = h
walk_agrees gap w (u ∷ f) p v φ i h l =
    go_on_lem (term_tested (encode_term u) (get_or (map enc w) p blank_term) v) (test basics consts ℕ_discrete gap w p u φ)
    (walked gap (map enc w) (map encode_term f) (p + width_of gap (encode_term u))) (λ ψ. walk basics consts ℕ_discrete gap w f (p + width gap u) ψ)
    (test_agrees gap w p u v φ i.0 h (omega arith))
    (λ v' ψ h'. subst (λ (k : ℕ). Agrees (walked gap (map enc w) (map encode_term f) (p + k) v') (walk basics consts ℕ_discrete gap w f (p + width gap u) ψ))
    (sym (width_enc gap u))
    (walk_agrees gap w f (p + width gap u) v' ψ i.1 h' (omega arith)))

-- ---- a field

pub field_agrees : (f : List OurTerm) (w : List Con) (v : Values) (φ : Filling Con Kind ℕ) → All TermIn f → OneList f → Holds v φ
    → Agrees (field_tested (map encode_term f) (map enc w) v) (match_field basics consts ℕ_discrete f w φ)
field_agrees f w v φ i o h =
    subst (λ (b : Bool). Agrees (cond b (walked (length (map enc w) - (shape_of (map encode_term f)).atoms) (map enc w) (map encode_term f) 0 v)
    (Err v)) (match_field basics consts ℕ_discrete f w φ)) (sym (fits_room f (length (map enc w)) ∙ ap (has_room f) long))
    (subst (λ (gap : ℕ). Agrees (cond (has_room f (length w)) (walked gap (map enc w) (map encode_term f) 0 v) (Err v))
    (match_field basics consts ℕ_discrete f w φ)) (sym (gap_is f (length (map enc w)) ∙ ap (λ (n : ℕ). n - atoms f) long))
    (go (has_room f (length w)) refl))
  where
    long : length (map enc w) ≡ length w
    long = length-map w enc

    go : (b : Bool) → has_room f (length w) ≡ b
        → Agrees (cond b (walked (length w - atoms f) (map enc w) (map encode_term f) 0 v) (Err v))
        (cond b (walk basics consts ℕ_discrete (length w - atoms f) w f 0 φ) none)
    go true e = walk_agrees (length w - atoms f) w f 0 v φ i h (omega (arith, room_span f o (length w) e))
    go false e = tt

-- ---- the fields

pub terms_of_lem : (u : List OurTerm) → terms_of (encode_field u) ≡ map encode_term u
terms_of_lem u = unpadded most_terms blank_term encode_term u

-- the value of a field of constants
abbrev pub encode_items : List Con → SlipField
encode_items w = encode_slip_field (map con w)

pub items_of_lem : (w : List Con) → items_of (encode_items w) ≡ map enc w
items_of_lem w = unpadded most_items blank_term encode_term (map con w) ∙ map-map encode_term con w

pub fields_agree : (fs : OurFields) (ws : SlipFields) (v : Values) (φ : Filling Con Kind ℕ) → All (All TermIn) fs → All OneList fs → Holds v φ
    → Agrees (fields_tested (map encode_field fs) (map encode_items ws) v) (match_fields basics consts ℕ_discrete fs ws φ)
fields_agree [] [] v φ i o h = h
fields_agree [] (w ∷ ws) v φ i o h = tt
fields_agree (f ∷ fs) [] v φ i o h = tt
fields_agree (f ∷ fs) (w ∷ ws) v φ i o h =
    go_on_lem (field_tested (terms_of (encode_field f)) (items_of (encode_items w)) v) (match_field basics consts ℕ_discrete f w φ)
    (fields_tested (map encode_field fs) (map encode_items ws)) (λ ψ. match_fields basics consts ℕ_discrete fs ws ψ)
    (subst (λ (a : List TermValue). Agrees (field_tested a (items_of (encode_items w)) v) (match_field basics consts ℕ_discrete f w φ)) (sym (terms_of_lem f))
    (subst (λ (a : List TermValue). Agrees (field_tested (map encode_term f) a v) (match_field basics consts ℕ_discrete f w φ)) (sym (items_of_lem w))
    (field_agrees f w v φ i.0 o.0 h)))
    (λ v' ψ h'. fields_agree fs ws v' ψ i.1 o.1 h')
