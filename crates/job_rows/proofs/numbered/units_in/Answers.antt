-- `job_rows::numbered::units_in` meets its contract. Assumes nothing.
use native.Mathlib.Omega.{arith}
use mathlib.Core.Path.{ap, ◌∙◌}
use Rattle.spec.specs.declared.Font.{Font}
use Rattle.spec.specs.Decode.{font_of}
use Rattle.job_rows.proofs.ByNumber.{font-here, font-past}
use Rattle.job_rows.proofs.numbered.units_in.Goals as goal

pub returns-then-fonts-k : goal.returns-then-fonts-k
returns-then-fonts-k c = let a = c.args in ap (λ (f : Font). f.units) (font-past a.s.now a.fonts a.b (omega arith))

pub returns : goal.returns
unfolding font_of
returns c =
    let a = c.args in
    c.u16_at.ensures ∙ ap (λ (f : Font). f.units) (font-here a.s.now a.fonts a.b (omega arith))
