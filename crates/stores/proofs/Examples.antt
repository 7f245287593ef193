-- 01, "Proved examples", g to j, and j by the revised sheet of 02, §5.
use mathlib.Core.Path.{◌≡◌, refl}
use mathlib.Core.Bool.{true, false}
use lib.IntN.{negsuc}
use Rattle.stores.specs.Store.{in_mode, signed, word_of}
use Rattle.stores.specs.Step.{stepped, fenced, step_stores}
use Rattle.stores.specs.Slider.{nearest, rounded_down, rounded_to_nearest, slid, slid_to, slider_stores}

-- "g. 98 up 5 in 0..100: stop 100, round 0."
pub g_stop : step_stores 0 98 true false 5 0 100 ≡ 100
unfolding in_mode signed word_of stepped fenced step_stores
g_stop = refl

pub g_round : step_stores 0 98 true true 5 0 100 ≡ 0
unfolding in_mode signed word_of stepped fenced step_stores
g_round = refl

-- "h. Slider 100..300, 0 to 1000, at 101: 5; 1000 to 0: 995."
pub h_rising : slider_stores rounded_down 0 0 0 1000 100 300 101 ≡ 5
unfolding in_mode signed word_of nearest rounded_down slid slid_to slider_stores
h_rising = refl

pub h_falling : slider_stores rounded_down 0 0 1000 0 100 300 101 ≡ 995
unfolding in_mode signed word_of nearest rounded_down slid slid_to slider_stores
h_falling = refl

-- "i. −10 to 10 at 150: −5."
pub i_negative : signed (slider_stores rounded_down 0 0 0xFFF6 10 100 300 150) ≡ negsuc 4
unfolding in_mode signed word_of nearest rounded_down slid slid_to slider_stores
i_negative = refl

-- "j. 0 to 7 at 299: 6; at 300: 7."
pub j_inside : slider_stores rounded_down 0 0 0 7 100 300 299 ≡ 6
unfolding in_mode signed word_of nearest rounded_down slid slid_to slider_stores
j_inside = refl

pub j_last : slider_stores rounded_down 0 0 0 7 100 300 300 ≡ 7
unfolding in_mode signed word_of nearest rounded_down slid slid_to slider_stores
j_last = refl

-- 02, §5: "Example j at 299 gives 7 by the new sheet."
pub j_inside_revised : slider_stores rounded_to_nearest 0 0 0 7 100 300 299 ≡ 7
unfolding in_mode signed word_of nearest rounded_to_nearest slid slid_to slider_stores
j_inside_revised = refl

pub j_last_revised : slider_stores rounded_to_nearest 0 0 0 7 100 300 300 ≡ 7
unfolding in_mode signed word_of nearest rounded_to_nearest slid slid_to slider_stores
j_last_revised = refl

-- "halves towards the end value": half way between 0 and 1, both ways
pub half_rising : slider_stores rounded_to_nearest 0 0 0 1 100 102 101 ≡ 1
unfolding in_mode signed word_of nearest rounded_to_nearest slid slid_to slider_stores
half_rising = refl

pub half_falling : slider_stores rounded_to_nearest 0 0 1 0 100 102 101 ≡ 0
unfolding in_mode signed word_of nearest rounded_to_nearest slid slid_to slider_stores
half_falling = refl

-- the same by the old sheet, which "rounded down"
pub half_rising_old : slider_stores rounded_down 0 0 0 1 100 102 101 ≡ 0
unfolding in_mode signed word_of nearest rounded_down slid slid_to slider_stores
half_rising_old = refl

pub half_falling_old : slider_stores rounded_down 0 0 1 0 100 102 101 ≡ 1
unfolding in_mode signed word_of nearest rounded_down slid slid_to slider_stores
half_falling_old = refl
