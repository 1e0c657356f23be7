-- What the pages in use become: as many of them can be in use as before. Assumes nothing.
use Rattle.std.specs.Prelude.{◌≡◌, ℕ, List, vec_items}
use Rattle.store.specs.declared.owner.Owner.{Owner}
use Rattle.pages.specs.declared.parts.Page.{Page}
use Rattle.pages.specs.declared.parts.Pages.{Pages}
use Rattle.pages.specs.Layout.{Extended}

-- they become ps
pub record Becomes (p q : Pages) (ps : List Page) : Type 0 where
  pub limit : q.limit ≡ p.limit
  pub items : vec_items q.taken ≡ ps

-- owner w, who had n bytes, has that part after them
pub record Extends (p q : Pages) (w : Owner) (n : ℕ) (part : List ℕ) : Type 0 where
  pub limit : q.limit ≡ p.limit
  pub items : Extended (vec_items p.taken) (vec_items q.taken) w n part
