-- `job_checks::check::places` meets its contract. Assumes nothing.
use Prim.Native.Nat.{◌+◌, ◌*◌}
use Rattle.spec.specs.Decode.{font_count, dx_at, dy_at, rotate_at, chunk_count_at}
use Rattle.spec.specs.Check.{after_version}
use Rattle.job_checks.specs.Verdict.{places_of}
use Rattle.job_checks.proofs.Places.{next_place}
use mathlib.Core.Path.{◌≡◌, refl}
use native.Mathlib.Omega.{arith}
use Rattle.job_checks.proofs.check.places.Goals as goal

pub returns : goal.returns
unfolding places_of dx_at dy_at rotate_at chunk_count_at
returns c =
    let s = c.args.bytes.now in
    let rest = c.tail-rest in
    let fonts = c.font_count-fonts in
    let list = c.tail in
    let k = c.list_size in
    let list2 = c.tail-2 in
    let k2 = c.list_size-2 in
    let list3 = c.tail-3 in
    let k3 = c.list_size-3 in
    let fonts-is : fonts.result ≡ font_count (after_version s) = rw (fonts.ensures.0, rest.ensures) refl in
    let dx = 7 + fonts.result * 18 in
    let dx-is : dx ≡ 5 + dx_at (after_version s) = omega arith in
    let dy-is : dx + k.result ≡ 5 + dy_at (after_version s) = next_place s dx k.result _ list.result.now dx-is list.ensures k.ensures.0 in
    let rotate-is : dx + k.result + k2.result ≡ 5 + rotate_at (after_version s) = next_place s _ k2.result _ list2.result.now dy-is list2.ensures k2.ensures.0 in
    let chunks-is : dx + k.result + k2.result + k3.result ≡ 5 + chunk_count_at (after_version s) = next_place s _ k3.result _ list3.result.now rotate-is list3.ensures k3.ensures.0 in
    rw (chunks-is, rotate-is, dy-is, dx-is, fonts-is, c.u8_at.ensures, rest.ensures) refl
