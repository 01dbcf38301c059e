-- Laws of the words and fields of a line that stands in a text: the word that it begins with, the number after it, a put's two fields.
-- Assumes nothing.
use Rattle.std.specs.Prelude.{None, Option, Some}
use mathlib.Core.Path.{◌≡◌, refl, sym, ◌∙◌, ap, subst}
use mathlib.Core.Bool.{Bool, true, false, cond}
use mathlib.Core.List.{List, [], ◌∷◌, ◌++◌}
use Prim.Native.Nat.{ℕ, zero, suc, ◌+◌, ◌-◌, ◌≤◌, ◌<◌}
use native.Mathlib.Omega.{arith}
use native.Mathlib.Numerals.{add-one}
use lib.IntN.{ℤ}
use lib.ListN.{length, get_or, take, drop, length-append, length-drop}
use lib.Seq.{take-nil, take-take, split_at, length-take-le, get_or-take, get_or-drop, get_or-append_seam, take-append_seam, drop-drop}
use mir.Syntax.{w32}
use mir.Val.{to_z, of_z}
use mir.ValLaws.{to_z-of_z}
use Rattle.numerals.specs.Reading.{number_of, sample_of}
use Rattle.numerals.proofs.NumeralRound.{SampleIs, sample_is}
use Rattle.runfile.specs.Spelling.{put_word, take_word}
use Rattle.runfile.specs.Reading.{parts, same, number_after, take_of, put_of, operation_of}
use Rattle.runfile.specs.Twins.{until, Free}
use Rattle.reader.specs.Twins.{PassSays, put_in}
use Rattle.runfile.proofs.FieldLaws.{same_is, sample_tab, parts_cases, number_after_word}
use Rattle.runfile.proofs.PartsLaws.{parts_append, together, together_parts, parts_cut, parts_last}

-- ---- a put's fields
module _ (rest : List ℕ) where
  put_parts : parts 9 (put_word ++ (9 ∷ rest)) ≡ put_word ∷ parts 9 rest
  put_parts = parts_append 9 put_word rest (refl, (refl, (refl, tt)))

  pub put_after : (t x : List ℕ) → parts 9 rest ≡ t ∷ parts 9 x → put_in (parts 9 (put_word ++ (9 ∷ rest))) ≡ put_of (number_of t) (sample_of x)
  put_after t x e =
      ap put_in (put_parts ∙ ap (λ (ps : List (List ℕ)). put_word ∷ ps) e)
      ∙ parts_cases (λ ps. put_in (put_word ∷ t ∷ ps) ≡ put_of (number_of t) (sample_of x)) x refl (λ p q ps d. sym (ap (put_of (number_of t)) (sample_tab x p q ps d) ∙ bad (number_of t)))
    where
      bad : (n : Option ℕ) → put_of n None ≡ None
      bad (Some v) = refl
      bad None = refl

  pub put_short : parts 9 rest ≡ rest ∷ [] → put_in (parts 9 (put_word ++ (9 ∷ rest))) ≡ None
  put_short e = ap put_in (put_parts ∙ ap (λ (ps : List (List ℕ)). put_word ∷ ps) e)

pub put_none : (l : List ℕ) → ((rest : List ℕ) → l ≡ put_word ++ (9 ∷ rest) → ⊥) → put_in (parts 9 l) ≡ None
put_none l h = go (parts 9 l) (together_parts 9 l)
  where
    go : (ps : List (List ℕ)) → together 9 ps ≡ l → put_in ps ≡ None
    go [] t = refl
    go (f ∷ []) t = refl
    go (f ∷ n ∷ []) t = refl
    go (f ∷ n ∷ x ∷ []) t = at (same f put_word) refl
      where
        at : (b : Bool) → same f put_word ≡ b → cond b (put_of (number_of n) (sample_of x)) None ≡ None
        at true e = absurd (h (n ++ (9 ∷ x)) (sym t ∙ ap (λ (y : List ℕ). y ++ (9 ∷ (n ++ (9 ∷ x)))) (same_is f put_word e)))
        at false e = refl
    go (f ∷ n ∷ x ∷ m ∷ ps) t = refl

-- a line that is no take is its put
pub op_put : (ps : List (List ℕ)) → number_after take_word ps ≡ None → put_in ps ≡ operation_of ps
op_put [] e = refl
op_put (w ∷ []) e = refl
op_put (w ∷ n ∷ []) e = at (same w take_word) e
  where
    at : (b : Bool) → cond b (number_of n) None ≡ None → None ≡ cond b (take_of (number_of n)) None
    at true d = ap take_of (sym d)
    at false d = refl
op_put (w ∷ n ∷ x ∷ []) e = refl
op_put (w ∷ n ∷ x ∷ f ∷ fs) e = refl

-- ---- a line that stands from a to e in a text
pub drop_take : (m n : ℕ) (l : List ℕ) → drop m (take n l) ≡ take (n - m) (drop m l)
drop_take zero n l = let e : n ≡ n - 0 = omega arith in ap (λ (k : ℕ). take k l) e
drop_take (suc m) zero l = let e : 0 ≡ 0 - suc m = omega arith in ap (λ (k : ℕ). take k (drop (suc m) l)) e
drop_take (suc m) (suc n) [] = sym (take-nil (suc n - suc m))
drop_take (suc m) (suc n) (x ∷ l) = let e : n - m ≡ suc n - suc m = omega arith in drop_take m n l ∙ ap (λ (k : ℕ). take k (drop m l)) e

module _ (s : List ℕ) (a e : ℕ) (ae : a ≤ e) (es : e ≤ length s) where
  abbrev pub line_at : List ℕ
  line_at = take (e - a) (drop a s)

  line_length : length line_at ≡ e - a
  line_length = length-take-le (e - a) (drop a s) (rw (length-drop a s) (omega arith))

  -- what is left of it from a later place on
  pub line_rest : (m f : ℕ) → f ≡ a + m → drop m line_at ≡ take (e - f) (drop f s)
  line_rest m f q =
      let d : e - a - m ≡ e - f = omega arith in
      drop_take m (e - a) (drop a s) ∙ ap (take (e - a - m)) (drop-drop m a s) ∙ (λ i. take (d i) (drop (sym q i) s))

  module _ (w : List ℕ) where
    pub pass_short : e - a ≤ length w → PassSays a line_at w None
    pass_short h rest q = omega (arith, line_length, simp length-append at (ap length q))

    module _ (b : ℕ) (be : b ≡ a + length w) (long : length w < e - a) where
      at_word : get_or line_at (length w) 0 ≡ get_or s b 0
      at_word = get_or-take (e - a) (drop a s) (length w) 0 long ∙ get_or-drop a s (length w) 0 ∙ ap (λ (k : ℕ). get_or s k 0) (sym be)

      front : take (b - a) (drop a s) ≡ take (length w) line_at
      front = let d : b - a ≡ length w = omega arith in ap (λ (k : ℕ). take k (drop a s)) d ∙ sym (take-take (length w) (e - a) (drop a s) (omega arith))

      -- no tab after it
      pub pass_untabbed : (get_or s b 0 ≡ 9 → ⊥) → PassSays a line_at w None
      pass_untabbed h rest q = h (sym at_word ∙ ap (λ (l : List ℕ). get_or l (length w) 0) q ∙ get_or-append_seam w 9 rest 0)

      -- another word
      pub pass_other : (take (b - a) (drop a s) ≡ w → ⊥) → PassSays a line_at w None
      pass_other h rest q = h (front ∙ ap (take (length w)) q ∙ take-append_seam w (9 ∷ rest))

      pub pass_at : get_or s b 0 ≡ 9 → take (b - a) (drop a s) ≡ w → PassSays a line_at w (Some (b + 1))
      pass_at h q = (
        omega arith,
        split_at line_at (length w) 0 (rw line_length long)
            ∙ (λ i. (sym front ∙ q) i ++ ((at_word ∙ h) i ∷ drop (suc (length w)) line_at))
            ∙ ap (λ (k : ℕ). w ++ (9 ∷ drop k line_at)) (sym (add-one (length w))),
      )

    -- the number after the word, where it is passed
    pub pair_at : Free 9 w → (f : ℕ) → PassSays a line_at w (Some f) → number_of (take (e - f) (drop f s)) ≡ number_after w (parts 9 line_at)
    pair_at free f h =
        sym (ap number_of (line_rest (length w + 1) f (omega (arith, h.0))))
        ∙ sym (number_after_word w free (drop (length w + 1) line_at))
        ∙ ap (λ (l : List ℕ). number_after w (parts 9 l)) (sym h.1)

    pub pair_inside : (f : ℕ) → PassSays a line_at w (Some f) → f ≤ e
    pair_inside f h = omega (arith, h.0, line_length, simp length-append at (ap length h.1))

  -- a put's thread and sample, where a tab parts them at u
  module _ (f : ℕ) (h : PassSays a line_at put_word (Some f)) (u : ℕ) (eu : u ≡ f + until 9 (drop f (take e s))) where
    fe : f ≤ e
    fe = pair_inside put_word f h

    rest_is : drop 4 line_at ≡ drop f (take e s)
    rest_is = line_rest 4 f (omega (arith, h.0)) ∙ sym (drop_take f e s)

    whole : put_in (parts 9 line_at) ≡ put_in (parts 9 (put_word ++ (9 ∷ drop f (take e s))))
    whole = ap (λ (l : List ℕ). put_in (parts 9 l)) (h.1 ∙ ap (λ (l : List ℕ). put_word ++ (9 ∷ l)) rest_is)

    in_line : length (take e s) ≡ e
    in_line = length-take-le e s es

    pub put_one : e ≤ u → None ≡ put_in (parts 9 line_at)
    put_one l = sym (whole ∙ put_short (drop f (take e s)) (parts_last 9 (take e s) f u eu (rw in_line fe) (rw in_line l)))

    pub put_two : u < e → put_of (number_of (take (u - f) (drop f s))) (sample_of (take (e - (u + 1)) (drop (u + 1) s))) ≡ put_in (parts 9 line_at)
    put_two l =
        let cut = parts_cut 9 (take e s) f u eu (omega (arith, eu)) (rw in_line l) in
        sym (whole ∙ put_after (drop f (take e s)) (take (u - f) (drop f (take e s))) (drop (u + 1) (take e s)) cut
        ∙ (λ i. put_of (number_of ((ap (take (u - f)) (drop_take f e s) ∙ take-take (u - f) (e - f) (drop f s) (omega arith)) i)) (sample_of (drop_take (u + 1) e s i))))

-- a sample that was read stands in 32 bits as itself
pub sample_exact : (s : List ℕ) (x : ℤ) → sample_of s ≡ Some x → to_z w32 (of_z w32 x) ≡ x
sample_exact s x e = let h : SampleIs (Some x) s = subst (λ (r : Option ℤ). SampleIs r s) e (sample_is s) in to_z-of_z w32 x h.1
