-- Nothing in this file has to be believed by a reader of the claims: what this crate's printers answer, text put into a lent list of bytes from a
-- place on. Assumes nothing.
--   after at n          the place n bytes after at; no place is past the largest number of 64 bits, where no list reaches
--   Put out at w r new  new is out with the bytes w stored from at on, and r the place after them. A byte that would stand past the end is
--                       stored nowhere (`sets`), and counted in r all the same: so r, put from 0 on, is the room that w needs
--   Wrote p w q         the page q is p with the bytes w put, on the same text
use Rattle.std.specs.Prelude.{◌≡◌, List, ℕ, ◌+◌, ◌-◌, length}
use Rattle.std.proofs.lemmas.List.Edits.{sets}
use Rattle.numerals.specs.declared.Page.{Page}

-- the lesser of at + n and the largest number of 64 bits
abbrev pub after : ℕ → ℕ → ℕ
after at n = (at + n) - ((at + n) - 18446744073709551615)

pub record Put (out : List ℕ) (at : ℕ) (w : List ℕ) (r : ℕ) (new : List ℕ) : Type 0 where
  pub place : r ≡ after at (length w)
  pub text : new ≡ sets out at w

pub record Wrote (p : Page) (w : List ℕ) (q : Page) : Type 0 where
  pub same : q.text.ghost_name ≡ p.text.ghost_name
  pub put : Put p.text.now p.at w q.at q.text.now
