-- Laws of reading a whole text: its first lines, its operations and its schedule, put together. Assumes nothing.
use Rattle.std.specs.Prelude.{Err, None, Ok, Option, Result, Some}
use Rattle.runfile.specs.declared.Sizes.{Sizes}
use mathlib.Core.Path.{◌≡◌, refl, sym, ◌∙◌, ap, subst}
use mathlib.Core.List.{List, [], ◌∷◌, ◌++◌, append-nil}
use Prim.Native.Nat.{ℕ, suc}
use lib.ListN.{length, drop}
use lib.Seq.{length-sets}
use lib.IntN.{ℤ}
use Rattle.limits.specs.declared.Refusal.{Refusal}
use Rattle.limits.specs.declared.Refusal.TheVariants as X
use Rattle.runfile.specs.Spelling.{step_word}
use Rattle.runfile.specs.Reading.{parts, number_after, File, file, wrong, add_threads, add_slots, add_step, or_wrong, steps_from, read_of}
use Rattle.reader.specs.Twins.{HeadSays, under_ops, Done, OpsSays, StepsSay, ParsedSays}
use Rattle.runfile.specs.Reading.{sizes}

-- the lines of the schedule give no operations
abbrev pub Plain : File → Type 0
Plain (file a b thread kind sample schedule) = (thread ≡ []) × ((kind ≡ []) × (sample ≡ []))
Plain (wrong k) = Unit {0}

plain_step : (k : ℕ) (r : Option ℕ) (f : File) → Plain f → Plain (or_wrong k r (λ t. add_step t f))
plain_step k (Some t) (file a b thread kind sample schedule) h = h
plain_step k (Some t) (wrong j) h = tt
plain_step k None f h = tt

pub steps_plain : (k : ℕ) (ps : List (List ℕ)) → Plain (steps_from k ps)
steps_plain k [] = tt
steps_plain k ([] ∷ []) = (refl, (refl, refl))
steps_plain k ((c ∷ l) ∷ []) = tt
steps_plain k (l ∷ m ∷ ls) = plain_step k (number_after step_word (parts 9 l)) (steps_from (suc k) (m ∷ ls)) (steps_plain (suc k) (m ∷ ls))

module _ (s thread₀ kind₀ : List ℕ) (sample₀ : List ℤ) (schedule₀ thread kind : List ℕ) (sample : List ℤ) (schedule : List ℕ) where
  abbrev Says : Result Sizes Refusal → Type 0
  Says r = ParsedSays (read_of s) r thread₀ kind₀ sample₀ schedule₀ thread kind sample schedule

  wrong_is : (k : ℕ) (r : Refusal) → read_of s ≡ wrong k → r ≡ X.Line k → Says (Err r)
  wrong_is k r e q = subst (λ (f : File). ParsedSays f (Err r) thread₀ kind₀ sample₀ schedule₀ thread kind sample schedule) (sym e) q

  pub parse_head : (r : Refusal) → HeadSays s (Err r) → Says (Err r)
  unfolding read_of
  parse_head r h = wrong_is h.0 r h.1.0 h.1.1

  module _ (n m a : ℕ) (h : HeadSays s (Ok (record { threads = n; slots = m; place = a }))) (count place line : ℕ) (o : OpsSays s a 3 thread₀ kind₀ sample₀ thread kind sample count place line) where
    abbrev read : Done thread₀ kind₀ sample₀ thread kind sample count
    read = o.done

    abbrev rest : File
    rest = steps_from line (parts 10 (drop place s))

    abbrev under : File → File
    under f = add_threads n (add_slots m (under_ops read.ts read.ks read.xs f))

    body : read_of s ≡ under rest
    unfolding read_of
    body = h.0 ∙ ap (λ (f : File). add_threads n (add_slots m f)) o.reading

    pub parse_steps : (r : Refusal) → StepsSay rest (Err r) schedule₀ schedule → Says (Err r)
    parse_steps r v = go rest body v
      where
        go : (f : File) → read_of s ≡ under f → StepsSay f (Err r) schedule₀ schedule → Says (Err r)
        go (file a b ts ks xs ss) e w = absurd w
        go (wrong k) e w = wrong_is k r e w

    pub parse_done : (d : ℕ) → StepsSay rest (Ok d) schedule₀ schedule → Says (Ok (sizes n m count d))
    parse_done d v = go rest body (steps_plain line (parts 10 (drop place s))) v
      where
        go : (f : File) → read_of s ≡ under f → Plain f → StepsSay f (Ok d) schedule₀ schedule → Says (Ok (sizes n m count d))
        go (file a b ts ks xs ss) e p w =
            let all : read_of s ≡ file n m read.ts read.ks read.xs ss =
            e ∙ (λ i. file n m (read.ts ++ p.0 i) (read.ks ++ p.1.0 i) (read.xs ++ p.1.1 i) ss)
            ∙ (λ i. file n m (append-nil read.ts i) (append-nil read.ks i) (append-nil read.xs i) ss) in
            subst (λ (f : File). ParsedSays f (Ok (sizes n m count d)) thread₀ kind₀ sample₀ schedule₀ thread kind sample schedule) (sym all)
            (refl, (refl, (read.many, (w.0, (read.many_kinds, (read.many_samples, (read.threads, (read.kinds, (read.samples, w.1)))))))))
        go (wrong k) e p w = absurd w

-- the lists that a reading was stored in are as long as they were
pub held_long : (s : List ℕ) (t u c d : ℕ) (zt zk : List ℕ) (zx : List ℤ) (zs ts ks : List ℕ) (xs : List ℤ) (ss : List ℕ) → ParsedSays (read_of s) (Ok (sizes t u c d)) zt zk zx zs ts ks xs ss
    → (length ts ≡ length zt) × (length ks ≡ length zk) × (length xs ≡ length zx) × (length ss ≡ length zs)
held_long s t u c d zt zk zx zs ts ks xs ss h = go (read_of s) h
  where
    go : (f : File) → ParsedSays f (Ok (sizes t u c d)) zt zk zx zs ts ks xs ss → (length ts ≡ length zt) × (length ks ≡ length zk) × (length xs ≡ length zx) × (length ss ≡ length zs)
    go (file n m at ak ax sch) p =
        let r = p.1.1.1.1.1.1 in
        (ap length r.0 ∙ length-sets zt 0 at, ap length r.1.0 ∙ length-sets zk 0 ak, ap length r.1.1.0 ∙ length-sets zx 0 ax, ap length r.1.1.1 ∙ length-sets zs 0 sch)
    go (wrong k) p = absurd p
