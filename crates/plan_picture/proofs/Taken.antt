-- A list that is mapped twice, under a name that a function's attribute can say.
pub use Rattle.list_laws.proofs.Elements.{map-map as fused}
