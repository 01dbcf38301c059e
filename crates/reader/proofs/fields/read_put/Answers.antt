-- After the word stand the thread, up to the next tab, and the sample, up to the line's end.
use Rattle.limits.specs.declared.Kind.TheVariants.{Put as putting}
use Rattle.std.proofs.Common.{Option, Some, ℕ, ℤ, arith, ◌+◌, ◌-◌, ◌∙◌, sym, ap, take, drop}
use lib.Seq.{length-take-le}
use Rattle.numerals.specs.Reading.{sample_of}
use Rattle.runfile.specs.Reading.{operation, put_of}
use Rattle.runfile.specs.Spelling.{put_word}
use Rattle.reader.proofs.WordLaws.{put_none, put_one, put_two, pair_inside, sample_exact}
use Rattle.reader.proofs.fields.read_put.Goals as goal

pub returns-in_err-f : goal.returns-in_err-f
returns-in_err-f c = c.from_residual.ensures ∙ sym (put_none (take (c.args.e - c.args.a) (drop c.args.a c.args.text.now)) c.in_err-f.ensures)

pub find-u-requires : goal.find-u-requires
find-u-requires c =
    let h = pair_inside c.args.text.now c.args.a c.args.e c.requires.0 c.requires.1 put_word c.in_ok-f.f c.in_ok-f.ensures in
    let l = length-take-le c.args.e c.args.text.now c.requires.1 in
    omega arith

pub returns-then-e-u : goal.returns-then-e-u
returns-then-e-u c = put_one c.args.text.now c.args.a c.args.e c.requires.0 c.requires.1 c.in_ok-f.f c.in_ok-f.ensures c.find-u.result c.find-u.ensures c.if-e-u.true

pub returns-in_err-thread : goal.returns-in_err-thread
returns-in_err-thread c =
    let a = c.args in
    let u = c.find-u.result in
    c.from_residual-in_err-thread.ensures
    ∙ ap (λ (n : Option ℕ). put_of n (sample_of (take (a.e - (u + 1)) (drop (u + 1) a.text.now)))) c.in_err-thread.ensures
    ∙ put_two a.text.now a.a a.e c.requires.0 c.requires.1 c.in_ok-f.f c.in_ok-f.ensures u c.find-u.ensures c.if-e-u.false

pub returns-in_err-sample : goal.returns-in_err-sample
returns-in_err-sample c =
    let a = c.args in
    c.from_residual-in_err-sample.ensures
    ∙ (λ i. put_of (c.in_ok-thread.ensures i) (c.in_err-sample.ensures i))
    ∙ put_two a.text.now a.a a.e c.requires.0 c.requires.1 c.in_ok-f.f c.in_ok-f.ensures c.find-u.result c.find-u.ensures c.if-e-u.false

pub returns : goal.returns
returns c =
    let a = c.args in
    let u = c.find-u.result in
    let q = c.in_ok-sample.ensures in
    ap (λ (x : ℤ). Some (operation c.in_ok-thread.thread putting x)) (sample_exact (take (a.e - (u + 1)) (drop (u + 1) a.text.now)) c.in_ok-sample.sample (sym q))
    ∙ (λ i. put_of (c.in_ok-thread.ensures i) (q i))
    ∙ put_two a.text.now a.a a.e c.requires.0 c.requires.1 c.in_ok-f.f c.in_ok-f.ensures u c.find-u.ensures c.if-e-u.false
