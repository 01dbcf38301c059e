-- Decisions of the conditions, so that the verdict computes. Nothing here has to be believed: a decision carries its proof.
use Rattle.std.specs.Prelude.{◌≡◌, refl, ◌⊎◌, List, [], ◌∷◌, ◌++◌, ℕ, ℤ, pos, negsuc}
use Rattle.std.proofs.Common.{sym, ap, ◌∙◌, inl, inr, arith}
use Rattle.std.proofs.Math.Option.{Option, none, some}
use Rattle.std.proofs.Math.Decide.{ℕ_discrete, dec_lt}
use Rattle.limits.specs.Lists.{All, Mem, Pw}
use Rattle.limits.specs.declared.Kind.{Kind}
use Rattle.limits.specs.declared.Kind.TheVariants.{Put as putting, Take as taking}
use Rattle.limits.specs.Operations.{Table}
use Rattle.history.specs.History.{Event, call, ret, Returned}
use Rattle.history.specs.Decide.{both?, either?, called?, precedes?}
use Rattle.linear.specs.Conditions.{MayGet, PlaysAt, Plays, Not20, Not21, Not22, Not23, Not24}

clash : {A : Type 0} → ◌≡◌ {A = ℕ} 0 1 → A
clash e = absurd (omega arith)

abbrev pub not? : {P : Type 0} → Dec P → Dec (¬ P)
not? (yes p) = no (λ n. n p)
not? (no n) = yes n

abbrev pub implies? : {P Q : Type 0} → Dec P → Dec Q → Dec (P → Q)
implies? (yes p) (yes q) = yes (λ _. q)
implies? (yes p) (no q) = no (λ f. q (f p))
implies? (no p) d = yes (λ x. absurd (p x))

-- equal, through a constructor that can be taken off
abbrev pub through? : {P Q : Type 0} → (P → Q) → (Q → P) → Dec P → Dec Q
through? f g (yes p) = yes (f p)
through? f g (no n) = no (λ q. n (g q))

pub pos_back : {m n : ℕ} → pos m ≡ pos n → m ≡ n
pos_back e = cc

pub neg_back : {m n : ℕ} → negsuc m ≡ negsuc n → m ≡ n
neg_back e = cc

pub pos_neg : {m n : ℕ} → pos m ≡ negsuc n → ⊥
pos_neg e = clash (cc)

pub some_back : {v w : ℤ} → some v ≡ some w → v ≡ w
some_back e = cc

pub none_some : {v : ℤ} → none ≡ some v → ⊥
none_some e = clash (cc)

abbrev pub int? : (a b : ℤ) → Dec (a ≡ b)
int? (pos m) (pos n) = through? (ap pos) pos_back (ℕ_discrete m n)
int? (pos m) (negsuc n) = no pos_neg
int? (negsuc m) (pos n) = no (λ e. pos_neg (sym e))
int? (negsuc m) (negsuc n) = through? (ap negsuc) neg_back (ℕ_discrete m n)

abbrev pub some? : (a : Option ℤ) (v : ℤ) → Dec (a ≡ some v)
some? none v = no none_some
some? (some w) v = through? (ap some) some_back (int? w v)

module _ {A : Type 0} where
  abbrev pub all? : {P : A → Type 0} → ((x : A) → Dec (P x)) → (l : List A) → Dec (All P l)
  all? d [] = yes tt
  all? d (x ∷ l) = both? (d x) (all? d l)

  abbrev pub pw? : {R : A → A → Type 0} → ((x y : A) → Dec (R x y)) → (l : List A) → Dec (Pw R l)
  pw? d [] = yes tt
  pw? d (x ∷ l) = both? (all? (d x) l) (pw? d l)

abbrev pub mem? : (a : ℕ) (l : List ℕ) → Dec (Mem a l)
mem? a [] = no (λ e. e)
mem? a (x ∷ l) = either? (ℕ_discrete a x) (mem? a l)

abbrev pub returned? : (h : List Event) (o : ℕ) → Dec (Returned h o)
returned? [] o = no (λ e. e)
returned? (call p ∷ h) o = returned? h o
returned? (ret p a ∷ h) o = either? (ℕ_discrete o p) (returned? h o)

pub listed_next : (h : List Event) (l : List ℕ) (b : ℕ) → Mem b l × Not22 h l → (o : ℕ) → (o ≡ b) ⊎ Returned h o → Mem o l
listed_next h l b m o (inl e) = rw e m.0
listed_next h l b m o (inr r) = m.1 o r

abbrev pub listed? : (h : List Event) (l : List ℕ) → Dec (Not22 h l)
listed? [] l = yes (λ o r. absurd r)
listed? (call b ∷ h) l = listed? h l
listed? (ret b v ∷ h) l = through? (listed_next h l b) (λ f. (f b (inl refl), λ o r. f o (inr r))) (both? (mem? b l) (listed? h l))

pub get_call : (h : List Event) (o : ℕ) (v : ℤ) (b : ℕ) → MayGet h o v → MayGet (call b ∷ h) o v
get_call h o v b f w (inl e) = clash (cc)
get_call h o v b f w (inr m) = f w m

pub get_ret : (h : List Event) (o : ℕ) (v : ℤ) (b : ℕ) (x : Option ℤ) → (o ≡ b → x ≡ some v) × MayGet h o v → MayGet (ret b x ∷ h) o v
get_ret h o v b x f w (inl e) = let ew : w ≡ x = cc in ew ∙ f.0 (cc)
get_ret h o v b x f w (inr m) = f.1 w m

abbrev pub get? : (h : List Event) (o : ℕ) (v : ℤ) → Dec (MayGet h o v)
get? [] o v = yes (λ w m. absurd m)
get? (call b ∷ h) o v = through? (get_call h o v b) (λ f w m. f w (inr m)) (get? h o v)
get? (ret b x ∷ h) o v =
    through? (get_ret h o v b x) (λ f. (λ e. f x (inl (rw e)), λ w m. f w (inr m))) (both? (implies? (ℕ_discrete o b) (some? x v)) (get? h o v))

module _ (kind : ℕ → Kind) (sample : ℕ → ℤ) (Get : ℕ → ℤ → Type 0) (g : (o : ℕ) (v : ℤ) → Dec (Get o v)) where
  abbrev pub plays_at? : (k : Kind) (x : ℤ) (o : ℕ) (q : List ℤ) (Next : List ℤ → Type 0) → ((r : List ℤ) → Dec (Next r)) → Dec (PlaysAt k x (Get o) q Next)
  plays_at? putting x o q Next d = d (q ++ (x ∷ []))
  plays_at? taking x o [] Next d = no (λ e. e)
  plays_at? taking x o (v ∷ q) Next d = both? (g o v) (d q)

  abbrev pub plays? : (l : List ℕ) (q : List ℤ) → Dec (Plays kind sample Get (λ r. Unit {0}) q l)
  plays? [] q = yes tt
  plays? (o ∷ l) q = plays_at? (kind o) (sample o) o q (λ r. Plays kind sample Get (λ r. Unit {0}) r l) (plays? l)

unfoldable pub not20? : (T : Table) (l : List ℕ) → Dec (Not20 T l)
not20? T l = both? (all? (λ o. dec_lt o T.size) l) (pw? (λ a b. not? (ℕ_discrete a b)) l)

unfoldable pub not21? : (h : List Event) (l : List ℕ) → Dec (Not21 h l)
not21? h l = all? (called? h) l

unfoldable pub not22? : (h : List Event) (l : List ℕ) → Dec (Not22 h l)
not22? h l = listed? h l

unfoldable pub not23? : (h : List Event) (l : List ℕ) → Dec (Not23 h l)
not23? h l = pw? (λ b a. not? (precedes? h a b)) l

unfoldable pub not24? : (T : Table) (h : List Event) (l : List ℕ) → Dec (Not24 T h l)
not24? T h l = plays? T.kind T.sample (MayGet h) (get? h) l []
