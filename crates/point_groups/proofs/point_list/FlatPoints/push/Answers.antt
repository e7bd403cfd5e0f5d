use Rattle.std.proofs.Common.{◌++◌, ◌∷◌, [], List, map, ap, sym, ◌∙◌, append_assoc}
use Rattle.std.proofs.lemmas.List.{map-append}
use Rattle.cube_point.specs.declared.point.Entry.{Entry}
use Rattle.point_groups.specs.Bare.{bare}
use Rattle.point_groups.proofs.point_list.FlatPoints.push.Goals as goal

pub returns : goal.returns
returns c =
    let its = c.self.inside in
    let e = c.args.entry in
    ap (λ (l : List Entry). its.closed ++ map bare l) c.in_ok-push.ensures.items
    ∙ (ap (λ (l : List Entry). its.closed ++ l) (map-append bare its.recent.items (e ∷ []))
    ∙ (sym (append_assoc its.closed (map bare its.recent.items) (bare e ∷ []))
    ∙ ap (λ (l : List Entry). l ++ bare e ∷ []) (c.self.view_is ∙ c.in_ok-make_room.ensures)))
