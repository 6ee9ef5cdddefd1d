-- `job_rows::numbered::font_in` meets its contract. Assumes nothing.
use native.Mathlib.Omega.{arith}
use mathlib.Core.Path.{◌∙◌}
use Rattle.job_rows.proofs.ByNumber.{font-here, font-past}
use Rattle.job_rows.proofs.numbered.font_in.Goals as goal

pub returns-then-k-fonts : goal.returns-then-k-fonts
returns-then-k-fonts c = let a = c.args in c.font_at.ensures ∙ font-here a.s.now a.fonts a.b (omega arith)

pub returns : goal.returns
returns c = let a = c.args in c.blank_font.ensures ∙ font-past a.s.now a.fonts a.b (omega arith)
