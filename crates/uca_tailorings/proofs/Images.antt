-- Images of elements, and the weights and orders that they keep.
use Rattle.std.proofs.Common.{◌≡◌, List, [], ◌∷◌, ◌++◌, refl}
use Rattle.std.proofs.Common.{ap₂}
use Rattle.uca_weights.specs.declared.Element.{Element}
use Rattle.uca_tailorings.specs.Images.{Maps, IsImage, AreImages, KeepAllWeights}

-- lists of images, put together, are lists of images
pub images-append : (maps : Maps) (es fs gs hs : List Element) → AreImages maps es fs → AreImages maps gs hs → AreImages maps (es ++ gs) (fs ++ hs)
images-append maps [] [] gs hs first second = second
images-append maps [] (f ∷ fs) gs hs first second = absurd first
images-append maps (e ∷ es) [] gs hs first second = absurd first
images-append maps (e ∷ es) (f ∷ fs) gs hs first second = (first.0, images-append maps es fs gs hs first.1 second)

-- an image under maps that keep all weights is the element
pub kept_image : (maps : Maps) → KeepAllWeights maps → (e f : Element) → IsImage maps e f → e ≡ f
kept_image maps keep e f image i =
    record {
      primary = keep.primary e.primary f.primary image.primary i;
      secondary = keep.secondary e.secondary f.secondary image.secondary i;
      tertiary = keep.tertiary e.tertiary f.tertiary image.tertiary i;
      mark = image.mark i;
    }

-- and so it is of lists
pub kept_images : (maps : Maps) → KeepAllWeights maps → (es fs : List Element) → AreImages maps es fs → es ≡ fs
kept_images maps keep [] [] images = refl
kept_images maps keep [] (f ∷ fs) images = absurd images
kept_images maps keep (e ∷ es) [] images = absurd images
kept_images maps keep (e ∷ es) (f ∷ fs) images = ap₂ (λ g gs. g ∷ gs) (kept_image maps keep e f images.0) (kept_images maps keep es fs images.1)
