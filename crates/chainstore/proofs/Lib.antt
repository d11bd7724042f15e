pub mod NextProperties
pub mod RowsProperties
pub mod RingsProperties
pub mod LinksProperties
pub mod LinkedProperties
pub mod ViewsProperties
