-- A run of calls shows what the definitions show, so that the scrolling law holds of what a host sees. Assumes nothing.
use Prim.Native.Nat.{ℕ}
use mathlib.Core.Path.{◌≡◌, refl}
use mathlib.Core.List.{List, ◌++◌}
use lib.ListN.{length}
use lib.Ieee.{Float}
use Rattle.spec.specs.Outcome.{Outcome}
use Rattle.column_window.specs.Window.{Window, empty, added}
use Rattle.column_window.specs.Scroll.{after, answers, scroll, SameWidths}
use Rattle.column_window.specs.State.{Holds}
use Rattle.column_window.specs.Called.{WindowOpened, Calls}
use Rattle.column_window.proofs.Scroll.{scrolling}

held-calls : {b : List ℕ} {xs : List Float} {os : List (Outcome Float)} → Calls b xs os → (w : Window) → Holds b w → os ≡ answers w xs
held-calls Calls.none w h = refl
held-calls (Calls.call {x = x} c cs) w h = rw (c.answer w h, held-calls cs (after w (added w x)) (c.holds w h)) refl

-- a window of n labels is opened, and the extents xs are added to it: what comes back is the definition's run
pub calls-scroll : {b c : List ℕ} {n : ℕ} {width : Float} {xs : List Float} {os : List (Outcome Float)} → WindowOpened b n 0 width c → Calls c xs os → os ≡ scroll n xs
calls-scroll {n = n} o cs = held-calls cs (empty n) (o.holds refl)

-- two windows of n labels, the one from the top and the other from a place further down
pub calls-scrolling : {b c d e : List ℕ} {n : ℕ} {width height : Float} {os ps : List (Outcome Float)} (ys zs : List Float) → WindowOpened b n 0 width c → WindowOpened d n 0 height e
    → Calls c (ys ++ zs) os → Calls e zs ps → SameWidths n (length ys) os ps
calls-scrolling {n = n} ys zs o p cs ds = rw (calls-scroll o cs, calls-scroll p ds) (scrolling n ys zs)
