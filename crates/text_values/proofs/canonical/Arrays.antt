-- Values that stand for something, and arrays of them. Where a test says exactly that a place holds the one value of something,
-- the test of a struct with a count and an array says it of the struct. Bytes, terms, rule fields and slip fields are instances.
use mathlib.Core.Path.{◌≡◌, refl, sym, ◌∙◌, ap, ap₂}
use mathlib.Core.Logic.{◌↔◌}
use mathlib.Core.Bool.{Bool, true, ◌&&◌, false≢true}
use mathlib.Core.List.{List, [], ◌∷◌, ◌++◌, map}
use Prim.Native.Nat.{ℕ, zero, suc, ◌-◌, ◌≤◌}
use native.Mathlib.Nat.{sub-zero, suc-sub-suc}
use native.Mathlib.Omega.{arith}
use borrow.Author.Tests.{eqb-true, eq-eqb}
use lib.Dec.{eqb}
use lib.ListN.{length, take, replicate, length-append, length-map, length-replicate, length-take}
use lib.Seq.{take_at}
use Rattle.base_lists.specs.Seqs.{All}
use Rattle.text_values.specs.canonical.Filled.{pad, filled, filled_to}
use Rattle.base_lists.specs.Truths.{both_is}

-- `good` accepts exactly the values `encode y` with In y, and `view` takes them back; `blank` accepts d only
pub record Stands {A B : Type 0} (view : A → B) (encode : B → A) (good blank : A → Bool) (d : A) (In : B → Type 0) : Type 0 where
  pub view_in : (x : A) → good x ≡ true → In (view x)
  pub encode_view : (x : A) → good x ≡ true → encode (view x) ≡ x
  pub encode_good : (y : B) → In y → good (encode y) ≡ true
  pub view_encode : (y : B) → In y → view (encode y) ≡ y
  pub blank_is : (x : A) → (blank x ≡ true) ↔ (x ≡ d)

module _ {A B : Type 0} {view : A → B} {encode : B → A} {good blank : A → Bool} {d : A} {In : B → Type 0} (S : Stands view encode good blank d In) where
  -- there is one value for one thing
  pub encode_one : (y z : B) → In y → In z → encode y ≡ encode z → y ≡ z
  encode_one y z h k e = sym (S.view_encode y h) ∙ ap view e ∙ S.view_encode z k

  -- ---- the places
  views_in : (n : ℕ) (xs : List A) → filled good blank n xs ≡ true → All In (map view (take n xs))
  views_in zero xs h = tt
  views_in (suc n) [] h = tt
  views_in (suc n) (x ∷ xs) h = let p = (both_is (good x) (filled good blank n xs)).0 h in (S.view_in x p.0, views_in n xs p.1)

  few : (n : ℕ) (xs : List A) → filled good blank n xs ≡ true → n ≤ length xs
  few zero xs h = omega arith
  few (suc n) [] h = absurd (false≢true h)
  few (suc n) (x ∷ xs) h = let k = few n xs ((both_is (good x) (filled good blank n xs)).0 h).1 in omega arith

  blanks : (xs : List A) → filled good blank zero xs ≡ true → replicate (length xs) d ≡ xs
  blanks [] h = refl
  blanks (x ∷ xs) h =
      let p = (both_is (blank x) (filled good blank zero xs)).0 h in
      ap₂ (λ (a : A) (l : List A). a ∷ l) (sym ((S.blank_is x).0 p.0)) (blanks xs p.1)

  encode_views : (n : ℕ) (xs : List A) → filled good blank n xs ≡ true → map encode (map view (take n xs)) ++ replicate (length xs - n) d ≡ xs
  encode_views zero xs h = rw sub-zero (blanks xs h)
  encode_views (suc n) [] h = absurd (false≢true h)
  encode_views (suc n) (x ∷ xs) h =
      let p = (both_is (good x) (filled good blank n xs)).0 h in
      rw suc-sub-suc (ap₂ (λ (a : A) (l : List A). a ∷ l) (S.encode_view x p.0) (encode_views n xs p.1))

  blanks_back : (k : ℕ) → filled good blank zero (replicate k d) ≡ true
  blanks_back zero = refl
  blanks_back (suc k) = (both_is (blank d) (filled good blank zero (replicate k d))).1 ((S.blank_is d).1 refl, blanks_back k)

  encodes_good : (ys : List B) (k : ℕ) → All In ys → filled good blank (length ys) (map encode ys ++ replicate k d) ≡ true
  encodes_good [] k h = blanks_back k
  encodes_good (y ∷ ys) k h =
      (both_is (good (encode y)) (filled good blank (length ys) (map encode ys ++ replicate k d))).1 (S.encode_good y h.0, encodes_good ys k h.1)

  views_encode : (ys : List B) → All In ys → map view (map encode ys) ≡ ys
  views_encode [] h = refl
  views_encode (y ∷ ys) h = ap₂ (λ (a : B) (l : List B). a ∷ l) (S.view_encode y h.0) (views_encode ys h.1)

  -- ---- an array of w places
  module _ (w : ℕ) where
    array_filled : (n : ℕ) (xs : List A) → filled_to w good blank n xs ≡ true → (length xs ≡ w) × (filled good blank n xs ≡ true)
    array_filled n xs h = let p = (both_is (eqb (length xs) w) (filled good blank n xs)).0 h in (eqb-true (length xs) w p.0, p.1)

    -- the first n places stand for n
    pub array_count : (n : ℕ) (xs : List A) → filled_to w good blank n xs ≡ true → length (map view (take n xs)) ≡ n
    array_count n xs h = let k = few n xs (array_filled n xs h).1 in length-map (take n xs) view ∙ length-take n xs ∙ omega arith

    pub array_few : (n : ℕ) (xs : List A) → filled_to w good blank n xs ≡ true → n ≤ w
    array_few n xs h = let p = array_filled n xs h in omega (arith, few n xs p.1, p.0)

    pub array_in : (n : ℕ) (xs : List A) → filled_to w good blank n xs ≡ true → All In (map view (take n xs))
    array_in n xs h = views_in n xs (array_filled n xs h).1

    pub array_encode_view : (n : ℕ) (xs : List A) → filled_to w good blank n xs ≡ true → pad w d (map encode (map view (take n xs))) ≡ xs
    array_encode_view n xs h =
        let p = array_filled n xs h in
        let ys = map view (take n xs) in
        let e : w - length (map encode ys) ≡ length xs - n = omega (arith, length-map ys encode, array_count n xs h, p.0) in
        ap (λ (k : ℕ). map encode ys ++ replicate k d) e ∙ encode_views n xs p.1

    pub array_good : (ys : List B) → length ys ≤ w → All In ys → filled_to w good blank (length ys) (pad w d (map encode ys)) ≡ true
    array_good ys k h =
        let xs = pad w d (map encode ys) in
        let e : length xs ≡ w = simp (length-append, length-replicate, length-map) (omega arith) in
        (both_is (eqb (length xs) w) (filled good blank (length ys) xs)).1 (eq-eqb (length xs) w e, encodes_good ys (w - length (map encode ys)) h)

    pub array_view : (ys : List B) → All In ys → map view (take (length ys) (pad w d (map encode ys))) ≡ ys
    array_view ys h = ap (map view) (take_at (map encode ys) (replicate (w - length (map encode ys)) d) (length ys) (length-map ys encode)) ∙ views_encode ys h

-- ---- a struct with a count and an array
pub record Counted (A R : Type 0) : Type 0 where
  pub count : R → ℕ
  pub places : R → List A
  pub make : ℕ → List A → R
  pub make_parts : (r : R) → make (count r) (places r) ≡ r
  pub count_make : (n : ℕ) (xs : List A) → count (make n xs) ≡ n
  pub places_make : (n : ℕ) (xs : List A) → places (make n xs) ≡ xs

-- THE LAW: it stands for at most w of what its places stand for
pub counted : {A B R : Type 0} {view : A → B} {encode : B → A} {good blank : A → Bool} {d : A} {In : B → Type 0} (C : Counted A R) (w : ℕ)
    → Stands view encode good blank d In
    → Stands
    (λ (r : R). map view (take (C.count r) (C.places r)))
    (λ (ys : List B). C.make (length ys) (pad w d (map encode ys)))
    (λ (r : R). filled_to w good blank (C.count r) (C.places r))
    (λ (r : R). eqb (C.count r) 0 && filled_to w good blank (C.count r) (C.places r))
    (C.make 0 (replicate w d))
    (λ (ys : List B). (length ys ≤ w) × All In ys)
counted {A} {B} {R} {view} {encode} {good} {blank} {d} {In} C w S =
    record {
      view_in = λ r h.
          (omega (arith, array_count S w (C.count r) (C.places r) h, array_few S w (C.count r) (C.places r) h), array_in S w (C.count r) (C.places r) h);
      encode_view = λ r h. ap₂ C.make (array_count S w (C.count r) (C.places r) h) (array_encode_view S w (C.count r) (C.places r) h) ∙ C.make_parts r;
      encode_good = λ ys h. rw (C.count_make, C.places_make) (array_good S w ys h.0 h.1);
      view_encode = λ ys h. rw (C.count_make, C.places_make) (array_view S w ys h.1);
      blank_is = λ r. (to r, from r);
    }
  where
    to : (r : R) → (eqb (C.count r) 0 && filled_to w good blank (C.count r) (C.places r)) ≡ true → r ≡ C.make 0 (replicate w d)
    to r h =
        let p = (both_is (eqb (C.count r) 0) (filled_to w good blank (C.count r) (C.places r))).0 h in
        let z : C.count r ≡ 0 = eqb-true (C.count r) 0 p.0 in
        let e : pad w d [] ≡ C.places r = array_encode_view S w 0 (C.places r) (rw z at p.1) in
        sym (C.make_parts r) ∙ ap₂ C.make z (sym e ∙ rw sub-zero)

    from : (r : R) → r ≡ C.make 0 (replicate w d) → (eqb (C.count r) 0 && filled_to w good blank (C.count r) (C.places r)) ≡ true
    from r e =
        let z : C.count r ≡ 0 = ap C.count e ∙ C.count_make 0 (replicate w d) in
        let x : C.places r ≡ replicate w d = ap C.places e ∙ C.places_make 0 (replicate w d) in
        rw (z, x) (rw sub-zero at (array_good S w [] (omega arith) tt))
