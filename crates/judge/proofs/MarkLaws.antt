-- Laws of the marks: what they say of the history that was read. Assumes nothing.
use Rattle.std.proofs.Common.{◌≡◌, ◌≢◌, ℕ, ◌+◌, ◌*◌, ◌<◌, ◌≤◌, List, length, get_or, take, Option, Some, None, ℤ, pos, refl, sym, ap, ◌∙◌, arith, length-take-le, get_or-take}
use Rattle.std.proofs.lemmas.Option.{none-some}
use mathlib.Core.Option.{some}
use Rattle.limits.specs.declared.Kind.TheVariants.{Take}
use Rattle.limits.specs.declared.Table.{Table as Operations}
use Rattle.limits.specs.Operations.{Table}
use Rattle.history.specs.declared.Event.{Event}
use Rattle.history.specs.declared.Event.TheVariants.{Call, Return}
use Rattle.history.specs.Codes.{event_code}
use Rattle.history.specs.History.{Event as Happening, call, ret, Called, Returned, Precedes, code_of, answer, event_of, events}
use Rattle.history.proofs.CodeLaws.{code_at, called_at, at_called, returned_at, at_returned, precedes_at, at_precedes, mem_at, at_mem, event_call, event_ret, code_event, event_at_lem, events_length}
use Rattle.linear.specs.Conditions.{MayGet}
use Rattle.linear.specs.Decide.{some_back}
use Rattle.judge.specs.declared.History.{History}
use Rattle.judge.specs.declared.marks.Marks.{Marks}
use Rattle.judge.specs.Marks.{table_in, place_of, called, returned, ReadTo, Earlier, Gets}

-- m has the positions of the events of h, and no other
pub record Notes (h : List Happening) (m : Marks) : Type 0 where
  pub to : (e : Event) (j : ℕ) → j < length h → code_at h j ≡ event_code e → place_of m e ≡ Some j
  pub of : (e : Event) (j : ℕ) → place_of m e ≡ Some j → (j < length h) × (code_at h j ≡ event_code e)

placed : (o : Option ℕ) → o ≢ None → (j : ℕ) × (o ≡ Some j)
placed None ne = absurd (ne refl)
placed (Some j) ne = (j, refl)

module _ {h : List Happening} {m : Marks} (n : Notes h m) where
  at_place : (e : Event) → place_of m e ≢ None → (j : ℕ) × (j < length h) × (code_at h j ≡ event_code e)
  at_place e ne = let p = placed (place_of m e) ne in let r = n.of e p.0 p.1 in (p.0, r.0, r.1)

  -- called, returned, preceding: each exactly if the marks say so
  pub called_mark : (o : ℕ) → Called h o → called m o ≢ None
  called_mark o c z = let r = called_at h o c in none-some r.0 (sym z ∙ n.to (Call o) r.0 r.1 r.2)

  pub mark_called : (o : ℕ) → called m o ≢ None → Called h o
  mark_called o ne = let r = at_place (Call o) ne in at_called h o r.0 r.1 r.2

  pub returned_mark : (o : ℕ) → Returned h o → returned m o ≢ None
  returned_mark o c z = let r = returned_at h o c in none-some r.0 (sym z ∙ n.to (Return o) r.0 r.1 r.2)

  pub mark_returned : (o : ℕ) → returned m o ≢ None → Returned h o
  mark_returned o ne = let r = at_place (Return o) ne in at_returned h o r.0 r.1 r.2

  pub precedes_marks : (a b : ℕ) → Precedes h a b → Earlier m a b
  unfolding Earlier
  precedes_marks a b p =
      let r = precedes_at h a b p in
      let lt = r.in_turn in
      let le = r.inside in
      (r.early, r.late, n.to (Return a) r.early (omega arith) r.returns, n.to (Call b) r.late r.inside r.calls, r.in_turn)

  pub marks_precede : (a b : ℕ) → Earlier m a b → Precedes h a b
  unfolding Earlier
  marks_precede a b p =
      let r = n.of (Return a) p.0 p.2 in
      let s = n.of (Call b) p.1 p.3 in
      at_precedes h a b p.0 p.1 p.4 s.0 r.1 s.1

-- ---- of a history given by codes and samples

module _ (T : Table) (o c : ℕ) (x : ℤ) where
  -- an even code gives the call of its operation, an odd one the return
  pub even_call : c ≡ 2 * o → event_of T c x ≡ call o
  even_call e = event_call T c x (omega arith) ∙ ap call (omega arith)

  pub odd_return : c ≡ 2 * o + 1 → event_of T c x ≡ ret o (answer (T.kind o) x)
  odd_return e = event_ret T c x (λ z. omega arith) ∙ ap (λ p. ret p (answer (T.kind p) x)) (omega arith)

module _ (t : Operations) (given : History) (together : length given.samples.now ≡ length given.codes.now) where
  abbrev T : Table
  T = table_in t

  abbrev cs : List ℕ
  cs = given.codes.now

  abbrev xs : List ℤ
  xs = given.samples.now

  abbrev many : length (events T cs xs) ≡ length cs
  many = events_length T cs xs together

  -- the marks of its first i events
  pub notes : (i : ℕ) → i ≤ length cs → {m : Marks} → ReadTo t given i m → Notes (take i (events T cs xs)) m
  notes i le r = record { to = λ e j lt q. r.to e j (rw old at lt) (sym (code j (rw old at lt)) ∙ q); of = λ e j q. let s = r.of e j q in (rw old s.0, code j s.0 ∙ s.1) }
    where
      old : length (take i (events T cs xs)) ≡ i
      old = length-take-le i (events T cs xs) (rw many le)

      code : (j : ℕ) → j < i → code_at (take i (events T cs xs)) j ≡ get_or cs j 0
      code j lt = ap code_of (get_or-take i (events T cs xs) j (call 0) lt ∙ event_at_lem T cs xs together j (omega arith)) ∙ code_event T (get_or cs j 0) (get_or xs j (pos 0))

  -- a take may get a sample exactly if the marks and samples say so
  module _ {m : Marks} (r : ReadTo t given (length cs) m) (o : ℕ) (v : ℤ) (kind : T.kind o ≡ Take) where
    pub get_marks : MayGet (events T cs xs) o v → Gets given m o v
    get_marks g j e lt =
        let q = r.of (Return o) j e in
        let x = get_or xs j (pos 0) in
        let at = at_mem (events T cs xs) (ret o (answer (T.kind o) x)) j (rw many q.0) (event_at_lem T cs xs together j q.0 ∙ odd_return T o (get_or cs j 0) x q.1) in
        some_back (rw kind at (g (answer (T.kind o) x) at))

    pub marks_get : Gets given m o v → MayGet (events T cs xs) o v
    marks_get g a mem =
        let q = mem_at (events T cs xs) (ret o a) mem in
        let lt : q.0 < length cs = rw many at q.1 in
        let x = get_or xs q.0 (pos 0) in
        let at = sym (event_at_lem T cs xs together q.0 lt) ∙ q.2 in
        let code : get_or cs q.0 0 ≡ 2 * o + 1 = sym (code_event T (get_or cs q.0 0) x) ∙ ap code_of at in
        let same : ret o (answer (T.kind o) x) ≡ ret o a = sym (odd_return T o (get_or cs q.0 0) x code) ∙ at in
        let got : answer (T.kind o) x ≡ a = cc in
        sym got ∙ rw kind (ap some (g q.0 (r.to (Return o) q.0 lt code) (omega arith)))
