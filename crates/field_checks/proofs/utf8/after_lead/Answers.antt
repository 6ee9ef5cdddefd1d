-- `field_checks::utf8::after_lead` meets its contract: test by test. Assumes nothing.
use mathlib.Core.Path.{refl}
use borrow.Author.Tests.{lt-ltb, le-ltb, eq-eqb, ne_eqb}
use Rattle.spec.specs.Utf8.{lead}
use Rattle.field_checks.proofs.utf8.after_lead.Goals as goal

pub returns-then-b-lt128 : goal.returns-then-b-lt128
unfolding lead
returns-then-b-lt128 c =
    let b = c.args.b in
    rw (lt-ltb b 128 c.if-b-lt128.true) refl

pub returns-then-b : goal.returns-then-b
unfolding lead
returns-then-b c =
    let b = c.args.b in
    rw (
      le-ltb b 128 c.if-b-lt128.false,
      c.if-b.true,
    )
    refl

pub returns-then-b-eq224 : goal.returns-then-b-eq224
unfolding lead
returns-then-b-eq224 c =
    let b = c.args.b in
    rw (
      le-ltb b 128 c.if-b-lt128.false,
      c.if-b.false,
      eq-eqb b 224 c.if-b-eq224.true,
    )
    refl

pub returns-then-b-eq237 : goal.returns-then-b-eq237
unfolding lead
returns-then-b-eq237 c =
    let b = c.args.b in
    rw (
      le-ltb b 128 c.if-b-lt128.false,
      c.if-b.false,
      ne_eqb b 224 c.if-b-eq224.false,
      eq-eqb b 237 c.if-b-eq237.true,
    )
    refl

pub returns-then-b-2 : goal.returns-then-b-2
unfolding lead
returns-then-b-2 c =
    let b = c.args.b in
    rw (
      le-ltb b 128 c.if-b-lt128.false,
      c.if-b.false,
      ne_eqb b 224 c.if-b-eq224.false,
      ne_eqb b 237 c.if-b-eq237.false,
      c.if-b-2.true,
    )
    refl

pub returns-then-b-eq240 : goal.returns-then-b-eq240
unfolding lead
returns-then-b-eq240 c =
    let b = c.args.b in
    rw (
      le-ltb b 128 c.if-b-lt128.false,
      c.if-b.false,
      ne_eqb b 224 c.if-b-eq224.false,
      ne_eqb b 237 c.if-b-eq237.false,
      c.if-b-2.false,
      eq-eqb b 240 c.if-b-eq240.true,
    )
    refl

pub returns-then-b-3 : goal.returns-then-b-3
unfolding lead
returns-then-b-3 c =
    let b = c.args.b in
    rw (
      le-ltb b 128 c.if-b-lt128.false,
      c.if-b.false,
      ne_eqb b 224 c.if-b-eq224.false,
      ne_eqb b 237 c.if-b-eq237.false,
      c.if-b-2.false,
      ne_eqb b 240 c.if-b-eq240.false,
      c.if-b-3.true,
    )
    refl

pub returns-then-b-eq244 : goal.returns-then-b-eq244
unfolding lead
returns-then-b-eq244 c =
    let b = c.args.b in
    rw (
      le-ltb b 128 c.if-b-lt128.false,
      c.if-b.false,
      ne_eqb b 224 c.if-b-eq224.false,
      ne_eqb b 237 c.if-b-eq237.false,
      c.if-b-2.false,
      ne_eqb b 240 c.if-b-eq240.false,
      c.if-b-3.false,
      eq-eqb b 244 c.if-b-eq244.true,
    )
    refl

pub returns : goal.returns
unfolding lead
returns c =
    let b = c.args.b in
    rw (
      le-ltb b 128 c.if-b-lt128.false,
      c.if-b.false,
      ne_eqb b 224 c.if-b-eq224.false,
      ne_eqb b 237 c.if-b-eq237.false,
      c.if-b-2.false,
      ne_eqb b 240 c.if-b-eq240.false,
      c.if-b-3.false,
      ne_eqb b 244 c.if-b-eq244.false,
    )
    refl
